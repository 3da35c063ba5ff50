-- What an end lacks: by how much it has to be moved inward for each obligation that is not held.
use Rattle.std.specs.Prelude.{◌≡◌, ◌≤◌, ◌<◌, ◌*◌, ℕ, List, [], ◌∷◌, Some, Option, None, MatchOption}
use Rattle.std.specs.Prelude.{length, slice_get}
use Rattle.model_line.specs.{declared.line.Line.Line, declared.script.Script.Script}
use Rattle.model_line.specs.Parameters.{param_count, terminal_count}
use Rattle.model_logic.specs.{Choice.declared_box, HeldOver.IsHeldOver}
use Rattle.judge_report.specs.declared.upper_end.Lost.{Lost}
use Rattle.judge_margins.specs.declared.margins.end.Side.{Side}
use Rattle.judge_margins.specs.margins.Widened.{param_at, side_at}
use Rattle.judge_slacks.specs.{Inward.CanMoveIn, Needs.IsNeed}
use Rattle.judge_slacks.specs.{declared.lack.Need.Need, declared.lack.Short.Short, declared.lack.Lack.Lack}

-- an obligation of the list whose rule is not held over the declared intervals
pub record IsOff (line : Line) (scripts : List Script) (o : Lost) : Type 0 where
  pub script : Script
  pub at : slice_get scripts o.script ≡ Some script
  pub terminal : o.terminal < terminal_count line
  pub off : ¬ (IsHeldOver line script o.terminal (declared_box line))

-- so is each of these
abbrev pub AreOff : Line → List Script → List Lost → Type 0
AreOff line scripts others =
    (i : ℕ) (o : Lost) → slice_get others i ≡ Some o → IsOff line scripts o

-- the least move of an end with which the i-th of them is held, or none
pub record IsNeedAt (line : Line) (scripts : List Script) (others : List Lost) (param : ℕ)
    (side : Side) (i : ℕ) (need : Need) : Type 0 where
  pub of : slice_get others i ≡ Some need.of
  pub by : (script : Script) → slice_get scripts need.of.script ≡ Some script
      → IsNeed line script need.of.terminal param side need.by

-- one for each of the first n
pub record AreNeeds (line : Line) (scripts : List Script) (others : List Lost) (param : ℕ)
    (side : Side) (n : ℕ) (needs : List Need) : Type 0 where
  pub count : length needs ≡ n
  pub each : (i : ℕ) (need : Need) → slice_get needs i ≡ Some need
      → IsNeedAt line scripts others param side i need

-- none of the first n is held with any move
abbrev pub NoneIsHeld : List Need → ℕ → Type 0
NoneIsHeld needs n =
    (i : ℕ) (need : Need) → i < n → slice_get needs i ≡ Some need → need.by ≡ None

-- the need of what is short
abbrev pub need_with : Short → Need
need_with short = record { of = short.of; by = Some short.by }

-- the first of those of the first n that need the furthest move
pub record IsFurthest (needs : List Need) (n : ℕ) (short : Short) : Type 0 where
  pub place : ℕ
  pub within : place < n
  pub at : slice_get needs place ≡ Some (need_with short)
  pub most : (i m : ℕ) (need : Need) → i < n → slice_get needs i ≡ Some need
      → need.by ≡ Some m → m ≤ short.by
  pub first : (i m : ℕ) (need : Need) → i < place → slice_get needs i ≡ Some need
      → need.by ≡ Some m → m < short.by

abbrev pub IsShort : List Need → ℕ → Option Short → Type 0
IsShort needs n short = MatchOption short (NoneIsHeld needs n) (IsFurthest needs n)

-- those that no move holds, in order
abbrev pub with_left : Option ℕ → Lost → List Lost → List Lost
with_left None o left = o ∷ left
with_left (Some n) o left = left

abbrev pub left_of : List Need → List Lost
left_of [] = []
left_of (need ∷ needs) = with_left need.by need.of (left_of needs)

-- what an end lacks: the furthest of the least moves, and what no move holds
pub record IsLack (line : Line) (scripts : List Script) (others : List Lost) (param : ℕ)
    (side : Side) (lack : Lack) : Type 0 where
  pub needs : List Need
  pub are : AreNeeds line scripts others param side (length others) needs
  pub short : IsShort needs (length needs) lack.short
  pub left : lack.left.items ≡ left_of needs

-- the first n ends, both of each parameter in order
pub record AreLacksOf (line : Line) (scripts : List Script) (others : List Lost) (n : ℕ)
    (lacks : List Lack) : Type 0 where
  pub count : length lacks ≡ n
  pub each : (place : ℕ) (lack : Lack) → slice_get lacks place ≡ Some lack
      → IsLack line scripts others (param_at place) (side_at place) lack

abbrev pub AreLacks : Line → List Script → List Lost → List Lack → Type 0
AreLacks line scripts others lacks =
    AreLacksOf line scripts others (2 * param_count line) lacks

-- where an end is short, it can be moved so far
pub record AreDeep (line : Line) (lacks : List Lack) : Type 0 where
  pub each : (place : ℕ) (lack : Lack) (short : Short) → slice_get lacks place ≡ Some lack
      → lack.short ≡ Some short → CanMoveIn line (param_at place) (side_at place) short.by
