-- Gates where one value decides alone, or leaves the answer to the other argument.
use Rattle.std.proofs.Common.{◌≡◌, ℕ, ◌<◌, Bool, refl, sym, ◌∙◌, ap}
use Rattle.std.proofs.Common.{inl, inr}
use Rattle.std.proofs.Math.Bool.{or-false, or-true, and-false, and-true}
use Rattle.model_history.specs.Rails.{Rails, rails_and, rails_or}
use Rattle.run_signal.specs.{declared.tern.Tern.Tern, Terns.tern_rails}
use Rattle.run_signal.specs.declared.tern.Tern.TheVariants.{Zero, One}
use Rattle.run_waves.specs.declared.waves.runs.Stretch.{Stretch}
use Rattle.run_waves.specs.waves.Waves.{Decides, Leaves, IsDecided}

both_same : (a b c d : Bool) → a ≡ c → b ≡ d
    → let x : Rails = record { must = a; may = b } in let y : Rails = record { must = c; may = d } in
    x ≡ y
both_same a b c d first second =
    ap (λ (e : Bool). record { must = e; may = b }) first
    ∙ ap (λ (e : Bool). record { must = c; may = e }) second

pub zero_decides_and : Decides rails_and Zero
zero_decides_and x = (refl, both_same _ _ _ _ (and-false x.must) (and-false x.may))

pub one_leaves_and : Leaves rails_and One
one_leaves_and x = (refl, both_same _ _ _ _ (and-true x.must) (and-true x.may))

pub one_decides_or : Decides rails_or One
one_decides_or x = (refl, both_same _ _ _ _ (or-true x.must) (or-true x.may))

pub zero_leaves_or : Leaves rails_or Zero
zero_leaves_or x = (refl, both_same _ _ _ _ (or-false x.must) (or-false x.may))

-- what is decided at a tick is the answer there
pub decided_there : (op : Rails → Rails → Rails) (decides level : Tern) (first second : Stretch)
    (x y : Rails) (k : ℕ) → Decides op decides
    → tern_rails level ≡ op (tern_rails first.level) (tern_rails second.level)
    → (k < first.end → x ≡ tern_rails first.level)
    → (k < second.end → y ≡ tern_rails second.level) → IsDecided first second decides k
    → tern_rails level ≡ op x y
decided_there op decides level first second x y k alone is here there decided =
    elim decided [
      | inl on ↦ is ∙ ap (λ (r : Rails). op r (tern_rails second.level)) (sym (here on.0))
          ∙ ap (op x) (sym (there on.1))
      | inr one ↦ elim one [
        | inl on ↦ is
            ∙ ap (λ (v : Tern). op (tern_rails v) (tern_rails second.level)) on.1
            ∙ (alone (tern_rails second.level)).0
            ∙ sym (alone y).0
            ∙ ap (λ (v : Tern). op (tern_rails v) y) (sym on.1)
            ∙ ap (λ (r : Rails). op r y) (sym (here on.0))
        | inr on ↦ is
            ∙ ap (λ (v : Tern). op (tern_rails first.level) (tern_rails v)) on.1
            ∙ (alone (tern_rails first.level)).1
            ∙ sym (alone x).1
            ∙ ap (λ (v : Tern). op x (tern_rails v)) (sym on.1)
            ∙ ap (op x) (sym (there on.0))
      ]
    ]
