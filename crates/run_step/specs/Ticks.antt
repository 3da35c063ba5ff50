-- What a run holds before and at a tick: cells, keys that were sent, and values.
use Rattle.run_signal.specs.Signals.{SignalOf}
use Rattle.std.specs.Prelude.{◌≡◌, ◌<◌, ◌≤◌, ◌%◌, ◌/◌, ℕ, suc, List, [], Some, length, slice_get}
use Rattle.model_history.specs.{Rails.Rails, Recorded.first_ticks}
use Rattle.run_signal.specs.Lanes.{in_lane}
use Rattle.run_signal.specs.SentKeys.{SentKeys}
use Rattle.model_logic.specs.PairMean.{PairWorld, PairSignals}
use Rattle.net_gates.specs.declared.gate.Gate.{Gate}
use Rattle.run_step.specs.CellStands.{HasCell, CellStands}
use Rattle.run_step.specs.{declared.cell.Cell.Cell, GatePairs.GateSignals, GatePairs.kind_pair}

-- ---- cells

-- a cell of its kind for each gate
pub record HaveCells {C V S : Type 0} (gates : List Gate) (cells : List (Cell C V S)) : Type 0 where
  pub count : length cells ≡ length gates
  pub each : (i : ℕ) (g : Gate) (cell : Cell C V S) → slice_get gates i ≡ Some g
      → slice_get cells i ≡ Some cell → HasCell g cell

-- each cell stands for the ticks before t
abbrev pub AllStand : {C S V : Type 0} → SignalOf V S → (C → S → S → ℕ → List Rails → Type 0) → ℕ
    → PairWorld → GateSignals → ℕ → List Gate → List (Cell C V S) → Type 0
AllStand signal stands_for lane w u t gates cells =
    (i : ℕ) (g : Gate) (cell : Cell _ _ _) → slice_get gates i ≡ Some g
    → slice_get cells i ≡ Some cell → CellStands signal stands_for lane w u t g cell

-- within tick t: the first n cells stand for the ticks up to t, the others for those before it
pub record CellsWalked {C S V : Type 0} (signal : SignalOf V S)
    (stands_for : C → S → S → ℕ → List Rails → Type 0) (lane : ℕ) (w : PairWorld) (u : GateSignals)
    (t n : ℕ) (gates : List Gate) (cells : List (Cell C V S)) : Type 0 where
  pub done : (i : ℕ) (g : Gate) (cell : Cell C V S) → i < n → slice_get gates i ≡ Some g
      → slice_get cells i ≡ Some cell → CellStands signal stands_for lane w u (suc t) g cell
  pub left : (i : ℕ) (g : Gate) (cell : Cell C V S) → n ≤ i → slice_get gates i ≡ Some g
      → slice_get cells i ≡ Some cell → CellStands signal stands_for lane w u t g cell

-- ---- values

-- the pairs u of the gates at t are their kinds over u itself
abbrev pub AreTold : PairWorld → PairSignals → GateSignals → ℕ → List Gate → Type 0
AreTold w keys u t gates =
    (i : ℕ) (g : Gate) → slice_get gates i ≡ Some g → u i t ≡ kind_pair w keys u g t

-- the values of the first gates at t have the pairs u
abbrev pub ValuesAgree : {V : Type 0} → (V → ℕ → Rails) → ℕ → GateSignals → ℕ → List V → Type 0
ValuesAgree rails lane u t values =
    (i : ℕ) (x : _) → slice_get values i ≡ Some x → rails x lane ≡ u i t

-- the values of n gates, tick after tick, have the pairs u: that at place p is of gate p % n at
-- tick p / n
abbrev pub ValuesTold : {V : Type 0} → (V → ℕ → Rails) → ℕ → GateSignals → ℕ → List V → Type 0
ValuesTold rails lane u n values =
    (p : ℕ) (x : _) → slice_get values p ≡ Some x → rails x lane ≡ u (p % n) (p / n)

-- ---- tracks: keys that were sent, and trips

-- a track has a value for each tick before t
abbrev pub HasKeys : {V : Type 0} → ℕ → ℕ → ℕ → SentKeys V → Type 0
HasKeys horizon t k s = (length s.keys ≡ t) × (s.horizon ≡ horizon)

-- a track for each of n signals, with a value for each tick before t
pub record AreSent {V : Type 0} (n horizon t : ℕ) (sent : List (SentKeys V)) : Type 0 where
  pub count : length sent ≡ n
  pub each : (k : ℕ) (s : SentKeys V) → slice_get sent k ≡ Some s → HasKeys horizon t k s

-- a track with no values for each of n signals
pub record AreFresh {V : Type 0} (n horizon : ℕ) (lines : List (SentKeys V)) : Type 0 where
  pub count : length lines ≡ n
  pub empty : (k : ℕ) (s : SentKeys V) → slice_get lines k ≡ Some s
      → s ≡ record { keys = []; horizon = horizon }

-- track k has the pairs of signal k at the ticks before t
abbrev pub HasSent : {V : Type 0} → (V → ℕ → Rails) → ℕ → PairSignals → ℕ → ℕ → SentKeys V → Type 0
HasSent rails lane keys t k s = in_lane rails lane s.keys ≡ first_ticks (keys k) t

-- so it is of each track
abbrev pub KeysSent : {V : Type 0} → (V → ℕ → Rails) → ℕ → PairSignals → ℕ → List (SentKeys V)
    → Type 0
KeysSent rails lane keys t sent =
    (k : ℕ) (s : SentKeys _) → slice_get sent k ≡ Some s → HasSent rails lane keys t k s

-- in a lane, before tick t: the pairs u of the gates are told at t, the keys were sent, and the
-- cells stand
pub record IsReady {C S V : Type 0} (signal : SignalOf V S)
    (stands_for : C → S → S → ℕ → List Rails → Type 0) (lane : ℕ) (w : PairWorld) (keys : PairSignals)
    (u : GateSignals) (t : ℕ) (gates : List Gate) (tracks : List (SentKeys V))
    (cells : List (Cell C V S)) : Type 0 where
  pub told : AreTold w keys u t gates
  pub sent : KeysSent signal.rails lane keys t tracks
  pub stand : AllStand signal stands_for lane w u t gates cells

-- ---- both

-- the first n elements are done, the others are left
pub record PartDone {X : Type 0} (isdone isleft : ℕ → X → Type 0) (n : ℕ) (xs : List X)
    : Type 0 where
  pub done : (i : ℕ) (x : X) → i < n → slice_get xs i ≡ Some x → isdone i x
  pub left : (i : ℕ) (x : X) → n ≤ i → slice_get xs i ≡ Some x → isleft i x

-- in a lane, before tick t: the keys were sent, the cells stand, and the values are told
pub record LaneStands {C S V : Type 0} (signal : SignalOf V S)
    (stands_for : C → S → S → ℕ → List Rails → Type 0) (lane : ℕ) (w : PairWorld) (keys : PairSignals)
    (u : GateSignals) (t : ℕ) (gates : List Gate) (sent : List (SentKeys V))
    (cells : List (Cell C V S)) (values : List V) : Type 0 where
  pub keys_sent : KeysSent signal.rails lane keys t sent
  pub cells_stand : AllStand signal stands_for lane w u t gates cells
  pub told : ValuesTold signal.rails lane u (length gates) values
