use Rattle.std.proofs.Common.{◌≡◌, ℕ, Bool, Some, length}
use Rattle.std.specs.Prelude.{Decides, slice_get}
use Rattle.model_line.specs.declared.line.Line.{Line}
use Rattle.judge_verdict.specs.boxes.Held.{IsHeldOf}
use Rattle.judge_verdict.proofs.boxes.held.held_each.Given as goal

abbrev pub invariant-loop-i : goal.invariant-loop-i
invariant-loop-i l = record {
  count : length l.held.items ≡ l.i;
  each : (j : ℕ) (b : Bool) (part : Line) → slice_get l.held.items j ≡ Some b
      → slice_get l.parts j ≡ Some part → Decides b (IsHeldOf l.script l.terminal part);
}
