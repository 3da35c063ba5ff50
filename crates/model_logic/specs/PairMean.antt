-- The pair of a tree at a tick, by the interval rules.
use Rattle.std.specs.Prelude.{ℕ}
use Rattle.model_history.specs.Rails.{Rails, Ends, both, single, rails_not, rails_and, rails_or}
use Rattle.model_history.specs.Rails.{rails_timed, rails_sealed, rails_delayed}
use Rattle.model_logic.specs.Tree.{Tree, Const, Seen, Loss, Raw, Not, And, Or, Timer, Seal}
use Rattle.model_logic.specs.{declared.time.Time.Time, Mean.World}
use Rattle.model_line.specs.declared.script.Place.{Place}

-- what a tree's pair rests on beside the keys: as a world, with an interval for each number, and rails
-- of what is seen and lost
pub record PairWorld : Type 0 where
  pub seen : Place → ℕ → Rails
  pub lost : ℕ → ℕ → Rails
  pub from : ℕ → ℕ
  pub delay : ℕ → ℕ → Ends
  pub time : Time → Ends

-- a pair of rails for each terminal at each tick
abbrev pub PairSignals : Type 0
PairSignals = ℕ → ℕ → Rails

-- the pair of a tree at a tick over the pairs of all terminals' keys
unfoldable pub pair_mean : PairWorld → PairSignals → Tree → ℕ → Rails
pair_mean w keys (Const v) t = both v
pair_mean w keys (Seen p) t = w.seen p t
pair_mean w keys (Loss c) t = w.lost c t
pair_mean w keys (Raw c) t = rails_delayed (keys (w.from c)) (w.delay c t) t
pair_mean w keys (Not x) t = rails_not (pair_mean w keys x t)
pair_mean w keys (And x y) t = rails_and (pair_mean w keys x t) (pair_mean w keys y t)
pair_mean w keys (Or x y) t = rails_or (pair_mean w keys x t) (pair_mean w keys y t)
pair_mean w keys (Timer x p d) t = rails_timed (pair_mean w keys x) (w.time p) (w.time d) t
pair_mean w keys (Seal a b) t = rails_sealed (pair_mean w keys a) (pair_mean w keys b) t

-- the world whose intervals are all one number
abbrev pub singles : World → PairWorld
singles w = record {
  seen = λ p t. both (w.seen p t);
  lost = λ c t. both (w.lost c t);
  from = w.from;
  delay = λ c t. single (w.delay c t);
  time = λ x. single (w.time x);
}
