-- Scripts whose borders are not known: what is shown for certain, what perhaps, and the fine histories
-- under whatever is shown between the two.
use Rattle.std.specs.Prelude.{◌≡◌, ◌/◌, ℕ, Bool}
use Rattle.model_history.specs.{Rails.Covers}
use Rattle.model_line.specs.{Seen.is_seen, Seen.is_lost, Channels.from_of}
use Rattle.model_line.specs.{declared.line.Line.Line, declared.script.Script.Script}
use Rattle.model_line.specs.declared.script.Place.{Place}
use Rattle.model_logic.specs.Choice.{Choice, Box, ends_by, time_by}
use Rattle.model_logic.specs.Histories.{Everywhere, History, PairHistory}
use Rattle.model_logic.specs.Logic.{key_tree, trip_tree}
use Rattle.model_logic.specs.{Mean.World, Mean.mean, PairMean.PairWorld, PairMean.pair_mean}
use Rattle.model_fine.specs.Fine.{AtFineTicks}

-- a line over a box, and two scripts: what the first shows is shown for certain, and nothing is shown that
-- the second does not show
unfoldable pub loose_world_of : Line → Script → Script → Box → PairWorld
loose_world_of line certain perhaps box = record {
  seen = λ p t. record {
    must = is_seen certain.spans.items p t;
    may = is_seen perhaps.spans.items p t;
  };
  lost = λ c t. record {
    must = is_lost certain.spans.items c t;
    may = is_lost perhaps.spans.items c t;
  };
  from = from_of line.channels.items;
  delay = box.delay;
  time = ends_by box.ends;
}

-- the interval history over it
pub record IsLooseHistory (line : Line) (certain perhaps : Script) (box : Box) (w : PairHistory)
    : Type 0 where
  pub keys : Everywhere line (λ k t.
      w.key k t ≡ pair_mean (loose_world_of line certain perhaps box) w.key (key_tree line k) t)
  pub trips : Everywhere line (λ k t.
      w.trip k t ≡ pair_mean (loose_world_of line certain perhaps box) w.key (trip_tree line k) t)

-- what is seen and lost, fine tick by fine tick
pub record Shown : Type 0 where
  pub seen : Place → ℕ → Bool
  pub lost : ℕ → ℕ → Bool

-- it lies between the two scripts
pub record IsBetween (n : ℕ) (line : Line) (certain perhaps : Script) (box : Box) (shown : Shown)
    : Type 0 where
  pub seen : (p : Place) (t : ℕ)
      → Covers ((loose_world_of line certain perhaps box).seen p (t / n)) (shown.seen p t)
  pub lost : (c t : ℕ)
      → Covers ((loose_world_of line certain perhaps box).lost c (t / n)) (shown.lost c t)

unfoldable pub shown_world_of : Line → Shown → Choice → World
shown_world_of line shown choice = record {
  seen = shown.seen;
  lost = shown.lost;
  from = from_of line.channels.items;
  delay = choice.delay;
  time = time_by choice.number;
}

-- the fine history of a line under what is shown at a fine choice
pub record IsShownHistory (n : ℕ) (line : Line) (shown : Shown) (choice : Choice) (h : History)
    : Type 0 where
  pub keys : AtFineTicks n line (λ k t.
      h.key k t ≡ mean (shown_world_of line shown choice) h.key (key_tree line k) t)
  pub trips : AtFineTicks n line (λ k t.
      h.trip k t ≡ mean (shown_world_of line shown choice) h.key (trip_tree line k) t)
