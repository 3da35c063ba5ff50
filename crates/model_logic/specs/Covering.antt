-- One world contains another, one list of keys covers another.
use Rattle.std.specs.Prelude.{◌≡◌, ◌<◌, ℕ}
use Rattle.model_history.specs.Rails.{RailsCover, IsPartOf}
use Rattle.model_line.specs.Parameters.{terminal_count, channel_count}
use Rattle.model_line.specs.{declared.line.Line.Line, declared.script.Place.Place}
use Rattle.model_logic.specs.Histories.{Everywhere}
use Rattle.model_logic.specs.PairMean.{PairWorld, PairSignals, pair_mean}
use Rattle.model_logic.specs.{declared.time.Time.Time, Names.HasTime, Tree.Tree}

-- what the wider world sees covers what the narrower one does, and each interval of the line is part of
-- the wider world's, at every tick
pub record IsWider (line : Line) (wide narrow : PairWorld) : Type 0 where
  pub seen : (p : Place) (t : ℕ) → RailsCover (wide.seen p t) (narrow.seen p t)
  pub lost : (c t : ℕ) → RailsCover (wide.lost c t) (narrow.lost c t)
  pub from : (c : ℕ) → wide.from c ≡ narrow.from c
  pub delay : (c t : ℕ) → c < channel_count line → t < line.horizon
      → IsPartOf (narrow.delay c t) (wide.delay c t)
  pub time : (x : Time) → HasTime line x → IsPartOf (narrow.time x) (wide.time x)

-- the two are the same in all that a pair of the line rests on
pub record IsSameWorld (line : Line) (w v : PairWorld) : Type 0 where
  pub seen : (p : Place) (t : ℕ) → w.seen p t ≡ v.seen p t
  pub lost : (c t : ℕ) → w.lost c t ≡ v.lost c t
  pub from : (c : ℕ) → w.from c ≡ v.from c
  pub delay : (c t : ℕ) → c < channel_count line → t < line.horizon → w.delay c t ≡ v.delay c t
  pub time : (x : Time) → HasTime line x → w.time x ≡ v.time x

-- the wide keys of the line's terminals cover the narrow ones at each tick before t
abbrev pub CoverBefore : Line → PairSignals → PairSignals → ℕ → Type 0
CoverBefore line wide narrow t =
    (k r : ℕ) → k < terminal_count line → r < t → RailsCover (wide k r) (narrow k r)

-- claimed keys cover, at each tick, the pairs that their trees have over the claims themselves
abbrev pub CoverOwn : Line → PairWorld → (ℕ → Tree) → PairSignals → Type 0
CoverOwn line w trees claims =
    Everywhere line (λ k t. RailsCover (claims k t) (pair_mean w claims (trees k) t))
