-- The deadline of a script that fits is below the horizon.
use Rattle.std.proofs.Common.{◌<◌, ◌≤◌, ℕ, arith}
use Rattle.std.proofs.lemmas.Bool.Decides.{nat_tests}
use Rattle.std.specs.Prelude.{IsTrue}
use Rattle.model_line.specs.declared.script.Kind.TheVariants.{Internal, External}
use Rattle.model_line.specs.Fits.{deadline_fits, Fits}
use Rattle.model_line.specs.declared.script.Kind.{Kind}
use Rattle.model_line.specs.{declared.line.Line.Line, declared.script.Script.Script}

fits_early : (kind : Kind) (deadline horizon : ℕ) → 1 ≤ horizon
    → IsTrue (deadline_fits horizon kind deadline) → deadline < horizon
fits_early Internal deadline horizon some fits = grind (arith, nat_tests)
fits_early External deadline horizon some fits = grind (arith, nat_tests)

pub deadline_early : (line : Line) (script : Script) → Fits line script
    → script.deadline < line.horizon
deadline_early line script fits =
    fits_early script.kind script.deadline line.horizon line.horizon_in_range.0 fits.deadline
