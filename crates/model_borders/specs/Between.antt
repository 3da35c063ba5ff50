-- Whatever is shown at lengths of a part lies between its two scripts.
use Rattle.std.specs.Prelude.{◌≡◌, ◌≤◌, ◌+◌, ◌*◌, ℕ, List, length, map}
use Rattle.model_history.specs.Rails.{Ends}
use Rattle.model_line.specs.{declared.line.Line.Line, declared.script.Script.Script}
use Rattle.model_logic.specs.Choice.{Box}
use Rattle.model_fine.specs.Loose.{IsBetween}
use Rattle.model_borders.specs.Later.{shown_later}
use Rattle.model_borders.specs.Borders.{stands, AreLengthsIn, shown_at, certain_span, perhaps_span}
use Rattle.model_borders.specs.Borders.{earliest, latest, earliest_alone, latest_alone}
use Rattle.model_borders.specs.declared.script.LooseScript.{LooseScript}

-- the two scripts of a part, where border a stands still at that place
pub record AreTwoScripts (script : LooseScript) (part : List Ends) (a place : ℕ)
    (one two : Script) : Type 0 where
  pub certain : one.spans.items ≡ map (certain_span script part a place) script.spans.items
  pub perhaps : two.spans.items ≡ map (perhaps_span script part a place) script.spans.items

-- whatever is shown at lengths of the part, later by what brings border a to its place, lies between them
abbrev pub WhatIsShownLiesBetween : Type 0
WhatIsShownLiesBetween =
    (n : ℕ) (script : LooseScript) (part : List Ends) (a place : ℕ) (certain perhaps : Script)
    (x : ℕ → ℕ) (d : ℕ) (line : Line) (box : Box) → 1 ≤ n
    → AreTwoScripts script part a place certain perhaps → AreLengthsIn n part x
    → d + stands n script.borders.items (length part) x a ≡ place * n
    → IsBetween n line certain perhaps box (shown_later d (shown_at n script (length part) x))

-- a border stands at its earliest tick or behind it, and at its latest or before: so there is such a number of
-- ticks where its latest is its place. Where border a is moved to a place, so are the others, each between its
-- earliest tick then and its latest
pub record BordersStandWithin : Type 0 where
  pub from : (n : ℕ) (script : LooseScript) (part : List Ends) (a : ℕ) (x : ℕ → ℕ)
      → AreLengthsIn n part x
      → earliest_alone script.borders.items part a * n
      ≤ stands n script.borders.items (length part) x a
  pub to : (n : ℕ) (script : LooseScript) (part : List Ends) (a : ℕ) (x : ℕ → ℕ)
      → AreLengthsIn n part x
      → stands n script.borders.items (length part) x a
      ≤ latest_alone script.borders.items part a * n
  pub moved_from : (n : ℕ) (script : LooseScript) (part : List Ends) (a place b : ℕ) (x : ℕ → ℕ)
      (d : ℕ) → AreLengthsIn n part x
      → d + stands n script.borders.items (length part) x a ≡ place * n
      → earliest script.borders.items part a place b * n
      ≤ d + stands n script.borders.items (length part) x b
  pub moved_to : (n : ℕ) (script : LooseScript) (part : List Ends) (a place b : ℕ) (x : ℕ → ℕ)
      (d : ℕ) → AreLengthsIn n part x
      → d + stands n script.borders.items (length part) x a ≡ place * n
      → d + stands n script.borders.items (length part) x b
      ≤ latest script.borders.items part a place b * n
