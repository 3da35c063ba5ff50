use Rattle.std.proofs.Common.{◌≡◌, ℕ, ◌+◌, ◌/◌, ◌<◌, length}
use Rattle.run_changes.specs.changes.Marks.{IsMarked}
use Rattle.run_changes.proofs.changes.marks.fresh_marks.Given as goal

abbrev pub invariant-loop-gate : goal.invariant-loop-gate
invariant-loop-gate l = record {
  wide : length l.words.items ≡ l.count / 64 + 1;
  marked : (i : ℕ) → i < l.gate → IsMarked i l.words.items;
}
