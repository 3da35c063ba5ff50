-- A list of warnings, with what is told of one number more.
use Rattle.std.proofs.Common.{◌≡◌, ◌+◌, ◌++◌, ℕ, List, ap, ◌∙◌, sym, append_assoc, add-one}
use Rattle.call_lint.specs.declared.warnings.warning.Warning.{Warning}
use Rattle.call_lint.specs.warnings.Listed.{told_below}

pub told_more : (n : ℕ) (told : ℕ → List Warning)
    → told_below (n + 1) told ≡ told_below n told ++ told n
told_more n told = rw add-one

pub grown : (old list new : List Warning) (n : ℕ) (told : ℕ → List Warning)
    → list ≡ old ++ told_below n told → new ≡ list ++ told n
    → new ≡ old ++ told_below (n + 1) told
grown old list new n told before now =
    now ∙ ap (λ (l : List Warning). l ++ told n) before
    ∙ append_assoc old (told_below n told) (told n)
    ∙ ap (λ (l : List Warning). old ++ l) (sym (told_more n told))
