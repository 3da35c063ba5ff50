use Rattle.std.proofs.Common.{◌≡◌, ◌<◌, ℕ, Bool, false}
use Rattle.model_history.specs.Rails.{Rails}
use Rattle.run_waves.specs.waves.Waves.{Tells}
use Rattle.draw_run.proofs.diagram.times.first_trip.Given as goal

-- off at every tick so far
abbrev pub invariant-loop-t : goal.invariant-loop-t
invariant-loop-t g l =
    (rail : Rails → Bool) → Tells (goal.F-post g l.is) rail
    → (r : ℕ) → r < l.t → rail ((g.H.Shown.pairs l.shown).trip l.k r) ≡ false
