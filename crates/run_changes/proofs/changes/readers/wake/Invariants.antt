use Rattle.std.proofs.Common.{◌≡◌, ℕ, length, Some}
use Rattle.std.specs.Prelude.{slice_get}
use Rattle.run_changes.specs.{changes.Readers.AreLowered, changes.Marks.AreMarked}
use Rattle.run_step.specs.LoopLaws.{FirstHave}
use Rattle.run_changes.proofs.changes.readers.wake.Given as goal

abbrev pub invariant-loop-gate : goal.invariant-loop-gate
invariant-loop-gate l = record {
  count : length l.dues.items ≡ length l.initial.dues.items;
  lowered : AreLowered l.initial.dues.items l.dues.items;
  awake : FirstHave (λ (i : ℕ). (due : ℕ) → slice_get l.dues.items i ≡ Some due → due ≡ 0) l.gates
      l.gate-index;
  marks : AreMarked l.dues.items l.marks;
  next : l.marks.next ≡ l.initial.marks.next;
  horizon : l.marks.horizon ≡ l.initial.marks.horizon;
}
