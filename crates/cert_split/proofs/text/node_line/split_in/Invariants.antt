use Rattle.std.proofs.Common.{◌≢◌, ◌<◌, ℕ}
use Rattle.model_logic.specs.Choice.{declared_box}
use Rattle.model_line.specs.NamesByNumber.{parameter_name}
use Rattle.model_logic.specs.Boxes.{CanSplit}
use Rattle.cert_split.specs.text.Grammar.{split_line}
use Rattle.cert_split.proofs.text.node_line.split_in.Given as goal

-- none of the parameters so far
abbrev pub invariant-loop-p : goal.invariant-loop-p
invariant-loop-p l =
    (param : ℕ) → param < l.p → (mid : ℕ) → CanSplit l.part (declared_box l.part) param mid
    → l.bytes ≢ split_line (parameter_name l.line param) mid
