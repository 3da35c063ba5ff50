use Rattle.std.proofs.Common.{ℕ, ◌<◌, ◌≤◌, ◌-◌}
use Rattle.run_changes.specs.changes.Marks.{IsMarked}
use Rattle.run_changes.proofs.changes.marks.next_marked.Given as goal

abbrev pub invariant-loop-gate : goal.invariant-loop-gate
invariant-loop-gate l = record {
  later : l.from ≤ l.gate;
  few : l.gate ≤ 4064;
  passed : (i : ℕ) → l.from ≤ i → i < l.gate → IsMarked i l.words → ⊥;
}

abbrev pub decreases-loop-gate : goal.decreases-loop-gate
decreases-loop-gate l = l.end - l.gate
