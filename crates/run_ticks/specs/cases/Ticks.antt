-- What a run holds before and at a tick: cells, keys that were sent, and values.
use Rattle.run_signal.specs.Signals.{SignalOf}
use Rattle.std.specs.Prelude.{◌≡◌, ℕ, Bool, List, Option, Some, length, slice_get}
use Rattle.model_history.specs.Rails.{Rails}
use Rattle.run_signal.specs.SentKeys.{SentKeys}
use Rattle.model_logic.specs.PairMean.{PairWorld, PairSignals}
use Rattle.model_logic.specs.Tree.{Tree}
use Rattle.model_settle.specs.Under.{assumed_or, pair_under, own_pair}
use Rattle.net_gates.specs.{declared.gate.Gate.Gate, Formulas.formula_of}
use Rattle.run_step.specs.GatePairs.{GateSignals, kind_pair}
use Rattle.run_step.specs.Ticks.{KeysSent, ValuesTold, AllStand}
use Rattle.run_step.specs.declared.cell.Cell.{Cell}

-- ---- pairs

-- the pair of a gate at a tick: that of the tree that it stands for, under levels
abbrev pub under_pairs : (Tree → ℕ → Option Bool) → PairWorld → PairSignals → List Gate → GateSignals
under_pairs level w keys gates i t = pair_under level w keys (formula_of gates i) t

-- its own pair
abbrev pub own_pairs : (Tree → ℕ → Option Bool) → PairWorld → PairSignals → List Gate → GateSignals
own_pairs level w keys gates i t = own_pair level w keys (formula_of gates i) t

-- the own pairs v of the gates at t are their kinds over u, and u is v with the levels of the trees
pub record AreToldUnder (level : Tree → ℕ → Option Bool) (trees : ℕ → Tree) (w : PairWorld)
    (keys : PairSignals) (u v : GateSignals) (t : ℕ) (gates : List Gate) : Type 0 where
  pub owns : (i : ℕ) (g : Gate) → slice_get gates i ≡ Some g → v i t ≡ kind_pair w keys u g t
  pub put : (i : ℕ) → u i t ≡ assumed_or (level (trees i) t) (v i t)

-- ---- what is ready, and what stands

-- in a lane, before tick t: the pairs u and v of the gates are told at t, the keys were sent, and
-- the cells stand
pub record IsReady {C S V : Type 0} (signal : SignalOf V S)
    (stands_for : C → S → S → ℕ → List Rails → Type 0) (lane : ℕ) (level : Tree → ℕ → Option Bool)
    (w : PairWorld) (keys : PairSignals) (u v : GateSignals) (t : ℕ) (gates : List Gate)
    (tracks : List (SentKeys V)) (cells : List (Cell C V S)) : Type 0 where
  pub told : AreToldUnder level (formula_of gates) w keys u v t gates
  pub sent : KeysSent signal.rails lane keys t tracks
  pub stand : AllStand signal stands_for lane w u t gates cells

-- in a lane, before tick t: the keys were sent, the cells stand, and both lists of values are told
pub record LaneStands {C S V : Type 0} (signal : SignalOf V S)
    (stands_for : C → S → S → ℕ → List Rails → Type 0) (lane : ℕ) (w : PairWorld) (keys : PairSignals)
    (u v : GateSignals) (t : ℕ) (gates : List Gate) (sent : List (SentKeys V))
    (cells : List (Cell C V S)) (values owns : List V) : Type 0 where
  pub keys_sent : KeysSent signal.rails lane keys t sent
  pub cells_stand : AllStand signal stands_for lane w u t gates cells
  pub told : ValuesTold signal.rails lane u (length gates) values
  pub own_told : ValuesTold signal.rails lane v (length gates) owns
