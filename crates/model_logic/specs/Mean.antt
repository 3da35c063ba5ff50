-- The value of a tree at a tick.
use Rattle.std.specs.Prelude.{◌&&◌, ◌||◌, ℕ, Bool, not}
use Rattle.model_history.specs.Elements.{timed, sealed, delayed}
use Rattle.model_logic.specs.Tree.{Tree, Const, Seen, Loss, Raw, Not, And, Or, Timer, Seal}
use Rattle.model_logic.specs.declared.time.Time.{Time}
use Rattle.model_line.specs.declared.script.Place.{Place}

-- what a tree's value rests on beside the keys: what the script shows, who sends on a channel, the
-- delay of each channel at each tick, and each pickup and dropout
pub record World : Type 0 where
  pub seen : Place → ℕ → Bool
  pub lost : ℕ → ℕ → Bool
  pub from : ℕ → ℕ
  pub delay : ℕ → ℕ → ℕ
  pub time : Time → ℕ

-- a truth value for each terminal at each tick, as its keys or its trips
abbrev pub Signals : Type 0
Signals = ℕ → ℕ → Bool

-- the value of a tree at a tick over the keys of all terminals
unfoldable pub mean : World → Signals → Tree → ℕ → Bool
mean w keys (Const v) t = v
mean w keys (Seen p) t = w.seen p t
mean w keys (Loss c) t = w.lost c t
mean w keys (Raw c) t = delayed (keys (w.from c)) (w.delay c t) t
mean w keys (Not x) t = not (mean w keys x t)
mean w keys (And x y) t = mean w keys x t && mean w keys y t
mean w keys (Or x y) t = mean w keys x t || mean w keys y t
mean w keys (Timer x p d) t = timed (mean w keys x) (w.time p) (w.time d) t
mean w keys (Seal a b) t = sealed (mean w keys a) (mean w keys b) t
