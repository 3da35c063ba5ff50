-- Stretches, one more at the end.
use Rattle.std.proofs.Common.{◌≡◌, ◌++◌, ◌∷◌, ℕ, List, [], refl, sym, ◌∙◌}
use Rattle.model_history.specs.Rails.{Rails}
use Rattle.draw_run.specs.declared.diagram.stretch.Stretch.{Stretch}
use Rattle.draw_run.specs.diagram.Stretches.{IsStretch, AreStretches}

pub AreStretches-push : (pair : ℕ → Rails) (from : ℕ) (xs : List Stretch) (to : ℕ) (s : Stretch)
    → AreStretches pair from xs to → IsStretch pair s → s.from ≡ to
    → AreStretches pair from (xs ++ s ∷ []) s.to
AreStretches-push pair from [] to s are is begins = (is, begins ∙ sym are, refl)
AreStretches-push pair from (x ∷ xs) to s are is begins =
    (are.0, are.1, AreStretches-push pair x.to xs to s are.2 is begins)
