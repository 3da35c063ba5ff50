-- What is known of an obligation over the intervals of a cell.
use Rattle.std.specs.Prelude.{Bool, true, false, ℕ}
use Rattle.model_line.specs.{declared.line.Line.Line, declared.script.Script.Script}
use Rattle.model_logic.specs.Choice.{Box, Choice, IsWithin}
use Rattle.model_logic.specs.Histories.{History, IsLineHistory, Meets}
use Rattle.model_settle.specs.Schemes.{IsOneRailedBy}
use Rattle.judge_map.specs.declared.known.Known.{Known}
use Rattle.judge_map.specs.declared.known.Known.TheVariants.{Held, FailsForSome, FailsForEvery, Open}

-- every history of every choice within the box meets the obligation of terminal k
abbrev pub EachChoiceMeets : Line → Script → ℕ → Box → Type 0
EachChoiceMeets line script k box =
    (choice : Choice) (h : History) → IsWithin line choice box → IsLineHistory line script choice h
    → Meets line script k h

-- some choice within it, its delays moving, fails the obligation
pub record SomeChoiceFails (line : Line) (script : Script) (k : ℕ) (box : Box) : Type 0 where
  pub choice : Choice
  pub within : IsWithin line choice box
  pub history : History
  pub is : IsLineHistory line script choice history
  pub fails : ¬ (Meets line script k history)

-- every choice within it does
abbrev pub EachChoiceFails : Line → Script → ℕ → Box → Type 0
EachChoiceFails line script k box =
    (choice : Choice) (h : History) → IsWithin line choice box → IsLineHistory line script choice h
    → ¬ (Meets line script k h)

-- What is known is so. Of a line whose scheme makes each trip one-railed nothing is open.
abbrev pub IsKnown : Line → Script → ℕ → Box → Known → Type 0
IsKnown line script k box Held = EachChoiceMeets line script k box
IsKnown line script k box FailsForSome = SomeChoiceFails line script k box
IsKnown line script k box FailsForEvery = EachChoiceFails line script k box
IsKnown line script k box Open = ¬ (IsOneRailedBy line.scheme line)

abbrev pub is_held : Known → Bool
is_held Held = true
is_held FailsForSome = false
is_held FailsForEvery = false
is_held Open = false

abbrev pub fails : Known → Bool
fails Held = false
fails FailsForSome = true
fails FailsForEvery = true
fails Open = false

abbrev pub is_never_met : Known → Bool
is_never_met Held = false
is_never_met FailsForSome = false
is_never_met FailsForEvery = true
is_never_met Open = false
