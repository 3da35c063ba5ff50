-- Parts one after another.
use Rattle.std.proofs.Common.{◌≡◌, ◌+◌, ℕ, List, [], ◌∷◌, ◌++◌, sym, ◌∙◌, ap}
use Rattle.call_page.specs.declared.parts.Part.{Part}
use Rattle.call_page.specs.Parts.{Follow}

pub follow_push : (from to : ℕ) (parts : List Part) (p : Part) → Follow from parts to
    → p.start ≡ to → Follow from (parts ++ p ∷ []) (to + p.count)
follow_push from to [] p is start = (start ∙ sym is, ap (λ (n : ℕ). n + p.count) is)
follow_push from to (q ∷ more) p is start =
    (is.0, follow_push (from + q.count) to more p is.1 start)
