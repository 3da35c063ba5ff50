use Rattle.std.proofs.Common.{◌≢◌, ◌<◌, ◌^◌, ℕ}
use Rattle.model_line.specs.NamesByNumber.{parameter_name}
use Rattle.model_logic.specs.Choice.{Box}
use Rattle.model_settle.specs.Parts.{CanPart}
use Rattle.cert_settle.specs.{Grammar.part_line, Reading.IsOverBox}
use Rattle.cert_settle.proofs.branch_line.part_in.Given as goal

-- none of the parameters so far
abbrev pub invariant-loop-p : goal.invariant-loop-p
invariant-loop-p l =
    (param : ℕ) → param < l.p → (box : Box) (mid : ℕ) → IsOverBox l.line box l.view
    → mid < 2 ^ 32 → CanPart l.line box param mid
    → l.bytes ≢ part_line (parameter_name l.line param) mid
