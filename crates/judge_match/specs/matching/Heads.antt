-- What a head of a record file holds, and what its records have said so far.
use Rattle.std.specs.Prelude.{◌&&◌, ◌==◌, ◌<◌, ◌++◌, ℕ, Bool, List, [], ◌∷◌, nat_le, Option, None}
use Rattle.std.specs.Prelude.{Some, if◌then◌else◌}
use Rattle.std.specs.Bool.{beq}
use Rattle.std.specs.List.{All}
use Rattle.base_records.specs.SoFar.{SoFar, all_of, opened}
use Rattle.judge_match.specs.declared.matching.change.Change.{Change}
use Rattle.judge_match.specs.declared.matching.heads.Head.{Head}

-- a script's number, its changes in file order, and the last of them
pub record HeadValues : Type 0 where
  pub script : ℕ
  pub changes : List Change
  pub latest : Option Change

abbrev pub values_of : Head → HeadValues
values_of h = record { script = h.script; changes = h.changes.items; latest = h.latest }

-- the change is of this signal: a terminal's trip, or else its key
abbrev pub is_of : ℕ → Bool → Change → Bool
is_of terminal trip c = (c.terminal == terminal) && beq c.trip trip

-- the level that the changes leave a signal at, which had this level before them
abbrev pub level_after : ℕ → Bool → List Change → Bool → Bool
level_after terminal trip [] before = before
level_after terminal trip (c ∷ rest) before =
    level_after terminal trip rest (if is_of terminal trip c then c.level else before)

-- the level of a signal at tick t: that of its last change not after t, and false before it
abbrev pub level_by : ℕ → Bool → ℕ → List Change → Bool → Bool
level_by terminal trip t [] before = before
level_by terminal trip t (c ∷ rest) before =
    level_by terminal trip t rest
    (if is_of terminal trip c && nat_le c.tick t then c.level else before)

-- a head opens a record that has no change yet
abbrev pub with_head : SoFar HeadValues → ℕ → SoFar HeadValues
with_head s script = opened s (record { script = script; changes = []; latest = None })

-- a row adds its change to the latest head
abbrev pub with_change : SoFar HeadValues → HeadValues → Change → SoFar HeadValues
with_change s head c = record {
  done = s.done;
  latest = Some (record { script = head.script; changes = head.changes ++ c ∷ []; latest = Some c });
}

-- each head so far is of one of so many scripts
abbrev pub IsNamed : ℕ → HeadValues → Type 0
IsNamed count head = head.script < count

abbrev pub AllHeadsNamed : ℕ → SoFar HeadValues → Type 0
AllHeadsNamed count s = All (IsNamed count) (all_of s)
