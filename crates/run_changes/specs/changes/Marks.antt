-- Which gates have a mark, a bit for each, 64 to a word, and which are due at a tick.
use Rattle.std.specs.Prelude.{◌≡◌, ◌<◌, ◌≤◌, ◌⊎◌, ◌+◌, ◌*◌, ◌/◌, ◌%◌, ℕ, List, Some, length, slice_get}
use Rattle.std.specs.Prelude.{slice_index}
use Rattle.std.specs.Int.{bit_at}
use Rattle.run_changes.specs.declared.changes.marks.Marks.{Marks}

-- gate i has a mark
abbrev pub IsMarked : ℕ → List ℕ → Type 0
IsMarked i words = bit_at (slice_index words (i / 64)) (i % 64) ≡ 1

-- each gate that has a mark has it still
abbrev pub MarksStay : List ℕ → List ℕ → Type 0
MarksStay old new = (i : ℕ) → IsMarked i old → IsMarked i new

-- the gate is among those of the tick's row, and the tick among those at which some are due
abbrev pub IsOnAgenda : Marks → ℕ → ℕ → Type 0
IsOnAgenda marks i tick =
    IsMarked (64 * (tick % 512 * length marks.words.items) + i) marks.agenda.items
    × IsMarked tick marks.ticks.items

-- so it is at a tick that the ring reaches from the next one on, and that is not later than this one
pub record IsAhead (marks : Marks) (i due : ℕ) : Type 0 where
  pub tick : ℕ
  pub ahead : marks.next ≤ tick
  pub near : tick < marks.next + 512
  pub early : tick ≤ due
  pub on : IsOnAgenda marks i tick

-- so it is, or the tick is not before the horizon
abbrev pub IsPlanned : Marks → ℕ → ℕ → Type 0
IsPlanned marks i due = (marks.horizon ≤ due) ⊎ IsAhead marks i due

-- there is a row for each tick of the ring, with a bit for each gate, and a bit for each tick
-- before the horizon
pub record HasRoom (marks : Marks) : Type 0 where
  pub agenda : 512 * length marks.words.items ≤ length marks.agenda.items
  pub ticks : marks.horizon ≤ 64 * length marks.ticks.items
  pub few : length marks.words.items ≤ 9
  pub short : marks.horizon ≤ 4000
  pub reached : marks.next ≤ marks.horizon

-- nothing that was planned is dropped, and all else is as it was
pub record PlansGrow (old new : Marks) : Type 0 where
  pub words : new.words.items ≡ old.words.items
  pub agenda_room : length new.agenda.items ≡ length old.agenda.items
  pub agenda : MarksStay old.agenda.items new.agenda.items
  pub ticks_room : length new.ticks.items ≡ length old.ticks.items
  pub ticks : MarksStay old.ticks.items new.ticks.items
  pub horizon : new.horizon ≡ old.horizon
  pub next : new.next ≡ old.next

-- each gate has a mark, or is planned for the tick at which it is due
pub record AreMarked (dues : List ℕ) (marks : Marks) : Type 0 where
  pub room : HasRoom marks
  pub wide : length dues ≤ 64 * length marks.words.items
  pub planned : (i due : ℕ) → slice_get dues i ≡ Some due
      → IsMarked i marks.words.items ⊎ IsPlanned marks i due
