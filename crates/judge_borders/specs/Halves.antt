-- Parts that differ in one length, and parts that share an end.
use Rattle.std.specs.Prelude.{◌≡◌, ◌≢◌, ◌≤◌, ◌<◌, ◌⊎◌, ℕ, List, length, get_or}
use Rattle.model_history.specs.Rails.{Ends, single}
use Rattle.model_borders.specs.Borders.{AreLengthsIn}
use Rattle.judge_borders.specs.Parts.{IsPart}
use Rattle.judge_borders.specs.declared.middles.TwoParts.{TwoParts}

-- the part with another interval for length i
pub record WithLength (part new : List Ends) (i : ℕ) (own : Ends) : Type 0 where
  pub many : length new ≡ length part
  pub here : get_or new i (single 0) ≡ own
  pub others : (j : ℕ) → j ≢ i → get_or new j (single 0) ≡ get_or part j (single 0)

-- each interval of the new one lies within that of the part
pub record AreWithin (part new : List Ends) : Type 0 where
  pub many : length new ≡ length part
  pub from : (i : ℕ) → i < length part
      → (get_or part i (single 0)).least ≤ (get_or new i (single 0)).least
  pub to : (i : ℕ) → i < length part
      → (get_or new i (single 0)).greatest ≤ (get_or part i (single 0)).greatest

-- all lengths of the part are lengths of one of the two, in fractions of a tick too
abbrev pub ShareAnEnd : List Ends → List Ends → List Ends → Type 0
ShareAnEnd part lower upper =
    (n : ℕ) (x : ℕ → ℕ) → AreLengthsIn n part x → AreLengthsIn n lower x ⊎ AreLengthsIn n upper x

-- both have the same least lengths
pub record HaveOneLeast (one other : List Ends) : Type 0 where
  pub many : length other ≡ length one
  pub least : (i : ℕ) → (get_or other i (single 0)).least ≡ (get_or one i (single 0)).least

-- two parts of the part, which share an end; the lower has its least lengths
pub record AreTwoOf (part : List Ends) (two : TwoParts) : Type 0 where
  pub lower : IsPart two.lower.items
  pub upper : IsPart two.upper.items
  pub lower_within : AreWithin part two.lower.items
  pub upper_within : AreWithin part two.upper.items
  pub least : HaveOneLeast part two.lower.items
  pub cover : ShareAnEnd part two.lower.items two.upper.items
