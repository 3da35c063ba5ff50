-- The obligations that are held over the declared box, and those that are not.
use Rattle.std.specs.Prelude.{◌≡◌, ◌<◌, ◌⊎◌, ℕ, List, Some, slice_get}
use Rattle.model_line.specs.{declared.line.Line.Line, declared.script.Script.Script}
use Rattle.model_line.specs.Parameters.{terminal_count}
use Rattle.model_logic.specs.{Choice.declared_box, HeldOver.IsHeldOver}
use Rattle.judge_report.specs.declared.upper_end.Lost.{Lost}

-- the obligation stands before that of script s at terminal k: by script, then by terminal
abbrev pub IsBefore : Lost → ℕ → ℕ → Type 0
IsBefore o s k = (o.script < s) ⊎ ((o.script ≡ s) × (o.terminal < k))

-- an obligation before that one of which this is so
pub record IsPicked (line : Line) (scripts : List Script) (so : Script → ℕ → Type 0) (s k : ℕ)
    (o : Lost) : Type 0 where
  pub script : Script
  pub at : slice_get scripts o.script ≡ Some script
  pub terminal : o.terminal < terminal_count line
  pub is : so script o.terminal
  pub before : IsBefore o s k

-- all those, in order
pub record ArePicked (line : Line) (scripts : List Script) (so : Script → ℕ → Type 0) (s k : ℕ)
    (those : List Lost) : Type 0 where
  pub each : (i : ℕ) (o : Lost) → slice_get those i ≡ Some o → IsPicked line scripts so s k o
  pub all : (o : Lost) → IsPicked line scripts so s k o
      → (i : ℕ) × (slice_get those i ≡ Some o)
  pub ordered : (i j : ℕ) (a b : Lost) → i < j → slice_get those i ≡ Some a
      → slice_get those j ≡ Some b → IsBefore a b.script b.terminal

-- the rule is held over the declared box, or not
abbrev pub is_held : Line → Script → ℕ → Type 0
is_held line script k = IsHeldOver line script k (declared_box line)

abbrev pub is_not_held : Line → Script → ℕ → Type 0
is_not_held line script k = ¬ (IsHeldOver line script k (declared_box line))

-- the obligations before script s that are held, and the others
pub record AreToday (line : Line) (scripts : List Script) (s k : ℕ) (yes no : List Lost)
    : Type 0 where
  pub held : ArePicked line scripts (is_held line) s k yes
  pub others : ArePicked line scripts (is_not_held line) s k no
