use Rattle.std.proofs.Common.{◌≡◌, ℕ, ◌+◌, ◌≤◌, Some, length}
use Rattle.std.specs.Prelude.{slice_get}
use Rattle.run_changes.specs.{changes.Marks.AreMarked, changes.Readers.AreHastened}
use Rattle.run_step.specs.LoopLaws.{FirstHave}
use Rattle.run_changes.proofs.changes.hear.hasten.Given as goal

abbrev pub invariant-loop-gate : goal.invariant-loop-gate
invariant-loop-gate l = record {
  count : length l.dues.items ≡ length l.initial.dues.items;
  hastened : AreHastened l.initial.dues.items l.dues.items;
  soon : FirstHave (λ (i : ℕ). (due : ℕ) → slice_get l.dues.items i ≡ Some due → due ≤ l.first)
      l.gates l.gate-index;
  marks : AreMarked l.dues.items l.marks;
  next : l.marks.next ≡ l.t + 1;
  horizon : l.marks.horizon ≡ l.initial.marks.horizon;
}
