use Rattle.std.proofs.Common.{◌≡◌, ℕ, Bool, Some, length}
use Rattle.std.specs.Prelude.{slice_get}
use Rattle.judge_match.specs.{explain.Changes.StaysAround, explain.Asked.level_in}
use Rattle.judge_match.proofs.explain.recorded.stays.Given as goal

abbrev pub invariant-loop-t : goal.invariant-loop-t
invariant-loop-t l = record {
  count : length l.stays.items ≡ l.t;
  each : (t : ℕ) (level : Bool) → slice_get l.stays.items t ≡ Some (Some level)
      → StaysAround l.within (length l.levels) (level_in l.levels) t level;
}
