use Rattle.std.proofs.Common.{◌≡◌, ℕ, ◌+◌, ◌*◌, ◌/◌, ◌%◌, ◌<◌, ◌≤◌, ◌⊎◌, length, get_or}
use Rattle.run_changes.specs.changes.Marks.{IsMarked, MarksStay}
use Rattle.run_changes.proofs.changes.marks.wake_due.Given as goal

abbrev pub invariant-loop-k : goal.invariant-loop-k
invariant-loop-k l =
    let width = length l.initial.marks.words.items in
    let row = l.t % 512 * width in
    record {
      within : l.k ≤ width;
      words : length l.marks.words.items ≡ width;
      agenda : length l.marks.agenda.items ≡ length l.initial.marks.agenda.items;
      ticks : l.marks.ticks.items ≡ l.initial.marks.ticks.items;
      horizon : l.marks.horizon ≡ l.initial.marks.horizon;
      stay : MarksStay l.initial.marks.words.items l.marks.words.items;
      came : (i : ℕ) → i / 64 < l.k
          → IsMarked (64 * row + i) l.initial.marks.agenda.items
          → IsMarked i l.marks.words.items;
      others : (n : ℕ) → (n < row) ⊎ (row + l.k ≤ n)
          → get_or l.marks.agenda.items n 0 ≡ get_or l.initial.marks.agenda.items n 0;
    }
