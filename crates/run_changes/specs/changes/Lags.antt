-- What a run that evaluates only the gates behind a change holds before and after a tick.
use Rattle.run_signal.specs.Signals.{SignalOf}
use Rattle.std.specs.Prelude.{◌≡◌, ◌<◌, ◌≤◌, ◌-◌, ℕ, suc, List, Some, length, slice_get}
use Rattle.model_history.specs.{Rails.Rails, Rails.Ends, Recorded.first_ticks}
use Rattle.model_logic.specs.PairMean.{PairWorld}
use Rattle.net_gates.specs.{declared.gate.Gate.Gate, Named.NamedFrom, NetOf.NetOf, NetOf.IsNet}
use Rattle.net_gates.specs.declared.gate.Gate.TheVariants as gate
use Rattle.run_step.specs.declared.cell.Cell.{Cell}
use Rattle.run_changes.specs.declared.changes.since.Since.{Since}
use Rattle.run_changes.specs.declared.changes.gates.Gates.{Gates}
use Rattle.run_step.specs.declared.moment.Moment.{Moment}
use Rattle.run_step.specs.CellStands.{TimerStands, SealStands}
use Rattle.run_step.specs.Ticks.{AreTold, HaveCells, KeysSent}
use Rattle.run_step.specs.{GatePairs.GateSignals, Lanes.LanePairs, Lasts.Lasts}
use Rattle.run_step.specs.{Inputs.AreDelaysFrom, Inputs.AreSet, Moments.CanHear}
use Rattle.run_changes.specs.changes.Marks.{AreMarked}
use Rattle.run_step.specs.Shown.{IsShown}
use Rattle.run_changes.specs.{declared.changes.shown_by.ShownBy.ShownBy, changes.ShownBy.HasSpansOf}
use Rattle.run_changes.specs.changes.ShownBy.{shown_of}

-- a timer's cell stands for its input's first ticks; what it has not taken yet up to tick t, and
-- the last tick that it has, are one value
pub record TimerLags {C V S : Type 0} (signal : SignalOf V S)
    (stands_for : C → S → S → ℕ → List Rails → Type 0) (lane : ℕ) (p d : Ends) (input : ℕ → Rails)
    (t : ℕ) (cell : Cell C V S) (since : Since V) : Type 0 where
  pub taken : since.fed ≤ t
  pub stands : TimerStands stands_for signal.ends lane p d (first_ticks input since.fed) cell
  pub held : (r : ℕ) → since.fed ≤ suc r → r < t → input r ≡ signal.rails since.input lane

-- a timer's cell may lag behind tick t; a seal's stands for the ticks before it
abbrev pub Lags : {C S V : Type 0} → SignalOf V S → (C → S → S → ℕ → List Rails → Type 0) → ℕ
    → PairWorld → GateSignals → ℕ → Gate → Cell C V S → Since V → Type 0
Lags signal stands_for lane w u t (gate.Const v) cell since = Unit {0}
Lags signal stands_for lane w u t (gate.Seen p) cell since = Unit {0}
Lags signal stands_for lane w u t (gate.Loss c) cell since = Unit {0}
Lags signal stands_for lane w u t (gate.Raw c) cell since = Unit {0}
Lags signal stands_for lane w u t (gate.Not a) cell since = Unit {0}
Lags signal stands_for lane w u t (gate.And a b) cell since = Unit {0}
Lags signal stands_for lane w u t (gate.Or a b) cell since = Unit {0}
Lags signal stands_for lane w u t (gate.Timer a p d) cell since =
    TimerLags signal stands_for lane (w.time p) (w.time d) (u a.0) t cell since
Lags signal stands_for lane w u t (gate.Seal a b) cell since =
    SealStands signal.rails lane (first_ticks (u a.0) t) (first_ticks (u b.0) t) cell

-- the value is a timer's input at tick t
abbrev pub IsInputAt : {V : Type 0} → (V → ℕ → Rails) → ℕ → GateSignals → ℕ → Gate → V → Type 0
IsInputAt rails lane u t (gate.Const v) x = Unit {0}
IsInputAt rails lane u t (gate.Seen p) x = Unit {0}
IsInputAt rails lane u t (gate.Loss c) x = Unit {0}
IsInputAt rails lane u t (gate.Raw c) x = Unit {0}
IsInputAt rails lane u t (gate.Not a) x = Unit {0}
IsInputAt rails lane u t (gate.And a b) x = Unit {0}
IsInputAt rails lane u t (gate.Or a b) x = Unit {0}
IsInputAt rails lane u t (gate.Timer a p d) x = u a.0 t ≡ rails x lane
IsInputAt rails lane u t (gate.Seal a b) x = Unit {0}

-- the gate is no timer
abbrev pub IsNoTimer : Gate → Type 0
IsNoTimer (gate.Const v) = Unit {0}
IsNoTimer (gate.Seen p) = Unit {0}
IsNoTimer (gate.Loss c) = Unit {0}
IsNoTimer (gate.Raw c) = Unit {0}
IsNoTimer (gate.Not a) = Unit {0}
IsNoTimer (gate.And a b) = Unit {0}
IsNoTimer (gate.Or a b) = Unit {0}
IsNoTimer (gate.Timer a p d) = ⊥
IsNoTimer (gate.Seal a b) = Unit {0}

-- gate a, if it is one of the first n, has at tick t the pair of the tick before
abbrev pub IsSame : GateSignals → ℕ → ℕ → ℕ → Type 0
IsSame u t n a = a < n → 1 ≤ t → u a t ≡ u a (t - 1)

-- of the gate's arguments, those among the first n gates have the pair of the tick before
abbrev pub ArgsRest : GateSignals → ℕ → ℕ → Gate → Type 0
ArgsRest u t n (gate.Const v) = Unit {0}
ArgsRest u t n (gate.Seen p) = Unit {0}
ArgsRest u t n (gate.Loss c) = Unit {0}
ArgsRest u t n (gate.Raw c) = Unit {0}
ArgsRest u t n (gate.Not a) = IsSame u t n a.0
ArgsRest u t n (gate.And a b) = IsSame u t n a.0 × IsSame u t n b.0
ArgsRest u t n (gate.Or a b) = IsSame u t n a.0 × IsSame u t n b.0
ArgsRest u t n (gate.Timer a p d) = IsSame u t n a.0
ArgsRest u t n (gate.Seal a b) = IsSame u t n a.0 × IsSame u t n b.0

-- in a lane, before tick t: one gate, its cell, when it is due, and its last value
pub record GateWaits {C V S : Type 0} (signal : SignalOf V S)
    (stands_for : C → S → S → ℕ → List Rails → Type 0) (lane : ℕ) (p : LanePairs) (t i : ℕ)
    (gate : Gate) (cell : Cell C V S) (since : Since V) (due : ℕ) (value : V) : Type 0 where
  pub lags : Lags signal stands_for lane p.world p.pairs t gate cell since
  pub last : 1 ≤ t → signal.rails value lane ≡ p.pairs i (t - 1)
  pub lasts : Lasts p (t - 1) (t - 1) (due - (t - 1)) gate

-- so it is of each gate
abbrev pub AllWait : {C S V : Type 0} → SignalOf V S → (C → S → S → ℕ → List Rails → Type 0) → ℕ
    → LanePairs → ℕ → List Gate → Gates C V S S → Type 0
AllWait signal stands_for lane p t gates kept =
    (i : ℕ) (g : Gate) (cell : Cell _ _ _) (since : Since _) (due : ℕ) (value : _)
    → slice_get gates i ≡ Some g → slice_get kept.cells.items i ≡ Some cell
    → slice_get kept.sinces.items i ≡ Some since → slice_get kept.dues.items i ≡ Some due
    → slice_get kept.column.items i ≡ Some value
    → GateWaits signal stands_for lane p t i g cell since due value

-- each gate's cell may lag behind tick t
abbrev pub AllLag : {C S V : Type 0} → SignalOf V S → (C → S → S → ℕ → List Rails → Type 0) → ℕ
    → LanePairs → ℕ → List Gate → Gates C V S S → Type 0
AllLag signal stands_for lane p t gates kept =
    (i : ℕ) (g : Gate) (cell : Cell _ _ _) (since : Since _) → slice_get gates i ≡ Some g
    → slice_get kept.cells.items i ≡ Some cell → slice_get kept.sinces.items i ≡ Some since
    → Lags signal stands_for lane p.world p.pairs t g cell since

-- in a lane, at a tick: the lists show what the world does, the delays are its own, the keys were
-- sent, and the pairs are told
pub record IsGivenAt {S V : Type 0} (signal : SignalOf V S) (lane : ℕ)
    (p : LanePairs) (gates : List Gate) (shown : ShownBy) (moment : Moment V S S) : Type 0 where
  pub shows : (i : ℕ) (g : Gate) → slice_get gates i ≡ Some g
      → IsShown (shown_of shown i) p.world g
  pub delays : AreDelaysFrom signal.ends lane moment.delays.now p.world moment.t
  pub sent : KeysSent signal.rails lane p.keys moment.t moment.sent.now
  pub told : (r : ℕ) → AreTold p.world p.keys p.pairs r gates

-- within tick t, in a lane: the first n gates took it, the others wait
pub record IsTraced {C S V : Type 0} (signal : SignalOf V S)
    (stands_for : C → S → S → ℕ → List Rails → Type 0) (lane : ℕ) (p : LanePairs) (t n : ℕ)
    (gates : List Gate) (kept : Gates C V S S) : Type 0 where
  pub values : (i : ℕ) (x : V) → i < n → slice_get kept.column.items i ≡ Some x
      → signal.rails x lane ≡ p.pairs i t
  pub lags : (i : ℕ) (g : Gate) (cell : Cell C V S) (since : Since V) → i < n
      → slice_get gates i ≡ Some g → slice_get kept.cells.items i ≡ Some cell
      → slice_get kept.sinces.items i ≡ Some since
      → Lags signal stands_for lane p.world p.pairs (suc t) g cell since
  pub rests : (i : ℕ) (g : Gate) (due : ℕ) → n ≤ i → slice_get gates i ≡ Some g
      → slice_get kept.dues.items i ≡ Some due → t < due → ArgsRest p.pairs t n g
  pub wait : (i : ℕ) (g : Gate) (cell : Cell C V S) (since : Since V) (due : ℕ) (value : V)
      → n ≤ i → slice_get gates i ≡ Some g → slice_get kept.cells.items i ≡ Some cell
      → slice_get kept.sinces.items i ≡ Some since → slice_get kept.dues.items i ≡ Some due
      → slice_get kept.column.items i ≡ Some value
      → GateWaits signal stands_for lane p t i g cell since due value

-- at the first tick each gate from number n on is due
abbrev pub AreFreshDues : ℕ → ℕ → List ℕ → Type 0
AreFreshDues t n dues = t ≡ 0 → (i due : ℕ) → n ≤ i → slice_get dues i ≡ Some due → due ≡ 0

-- within tick t, before gate n: there is one of each list for each gate, and each is marked or due
-- later
pub record AreAtGate {C V S : Type 0} (net : NetOf) (t n : ℕ) (kept : Gates C V S S) : Type 0 where
  pub cells : HaveCells net.gates kept.cells.items
  pub sinces : length kept.sinces.items ≡ length net.gates
  pub dues : length kept.dues.items ≡ length net.gates
  pub column : length kept.column.items ≡ length net.gates
  pub marks : AreMarked kept.dues.items kept.marks
  pub fresh : AreFreshDues t n kept.dues.items

-- the net is the line's, each gate has its spans, and the tick can be heard
pub record CanTrace {V S : Type 0} (signal : SignalOf V S) (net : NetOf)
    (shown : ShownBy) (moment : Moment V S S) : Type 0 where
  pub laws : IsNet net
  pub named : NamedFrom moment.line.now 0 net.gates
  pub shown_each : HasSpansOf (length net.gates) shown
  pub hear : CanHear signal moment
  pub set : AreSet moment.t moment.delays.now
