use Rattle.std.proofs.Common.{◌≡◌, ◌≤◌, ◌+◌, ℕ, ◌<◌, length}
use Rattle.std.specs.Prelude.{slice_index}
use Rattle.judge_slacks.specs.{Asked.move_at, Inward.narrowed}
use Rattle.judge_slacks.proofs.moves.move_span.Given as goal

-- the lanes so far have the ends of their moves
abbrev pub invariant-loop-lane : goal.invariant-loop-lane
invariant-loop-lane l = record {
  long : length l.least ≡ 64;
  long_too : length l.greatest ≡ 64;
  least : (k : ℕ) → k < l.lane → slice_index l.least k
      ≡ ((narrowed l.of.compiled.line.now l.of.param l.of.side (move_at l.gap (k + 1))).ends l.param).least;
  greatest : (k : ℕ) → k < l.lane → slice_index l.greatest k
      ≡ ((narrowed l.of.compiled.line.now l.of.param l.of.side (move_at l.gap (k + 1))).ends l.param).greatest;
  ordered : (k : ℕ) → k < l.lane → slice_index l.least k ≤ slice_index l.greatest k;
}
