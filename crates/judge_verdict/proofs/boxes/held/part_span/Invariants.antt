use Rattle.std.proofs.Common.{◌≡◌, ℕ, ◌<◌, Some, length}
use Rattle.std.specs.Prelude.{slice_get, slice_index}
use Rattle.model_line.specs.{declared.line.Line.Line, Parameters.declared_ends}
use Rattle.judge_verdict.specs.boxes.Held.{part_in}
use Rattle.judge_verdict.proofs.boxes.held.part_span.Given as goal

-- the lanes so far have the ends of their parts
abbrev pub invariant-loop-lane : goal.invariant-loop-lane
invariant-loop-lane l = record {
  long : length l.least ≡ 64;
  long_too : length l.greatest ≡ 64;
  least : (k : ℕ) (part : Line) → k < l.lane
      → slice_get l.parts (part_in (length l.parts) l.first k) ≡ Some part
      → slice_index l.least k ≡ (declared_ends part l.param).least;
  greatest : (k : ℕ) (part : Line) → k < l.lane
      → slice_get l.parts (part_in (length l.parts) l.first k) ≡ Some part
      → slice_index l.greatest k ≡ (declared_ends part l.param).greatest;
}
