-- What is shown, and a history, so many ticks later. Before, nothing is seen, lost, sent or tripped.
use Rattle.std.specs.Prelude.{◌≡◌, ◌+◌, ℕ}
use Rattle.model_history.specs.Elements.{delayed}
use Rattle.model_line.specs.declared.line.Line.{Line}
use Rattle.model_logic.specs.{Choice.Choice, Histories.History}
use Rattle.model_fine.specs.Loose.{Shown, IsShownHistory}

-- each element is seen, and each channel lost, d ticks later
unfoldable pub shown_later : ℕ → Shown → Shown
shown_later d shown = record {
  seen = λ p t. delayed (shown.seen p) d t;
  lost = λ c t. delayed (shown.lost c) d t;
}

-- each key and each trip comes d ticks later
unfoldable pub history_later : ℕ → History → History
history_later d h = record {
  key = λ k t. delayed (h.key k) d t;
  trip = λ k t. delayed (h.trip k) d t;
}

-- a choice with the same numbers, each delay of which comes d ticks later. What is free are its delays of
-- the ticks before d, at which nothing was sent
pub record IsChoiceLater (d : ℕ) (choice late : Choice) : Type 0 where
  pub numbers : late.number ≡ choice.number
  pub delays : (c t : ℕ) → late.delay c (t + d) ≡ choice.delay c t

-- where all that is shown comes d ticks later, so do all keys and trips
abbrev pub HistoriesShift : Type 0
HistoriesShift =
    (n d : ℕ) (line : Line) (shown : Shown) (choice late : Choice) (h : History)
    → IsChoiceLater d choice late → IsShownHistory n line shown choice h
    → IsShownHistory n line (shown_later d shown) late (history_later d h)
