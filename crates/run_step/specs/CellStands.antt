-- What the cells of timed gates stand for.
use Rattle.run_signal.specs.Signals.{SignalOf}
use Rattle.std.specs.Prelude.{◌≡◌, ℕ, List}
use Rattle.model_history.specs.{Rails.Rails, Rails.Ends, Recorded.first_ticks}
use Rattle.run_signal.specs.Seals.{SealStandsFor}
use Rattle.model_logic.specs.PairMean.{PairWorld}
use Rattle.net_gates.specs.declared.gate.Gate.{Gate}
use Rattle.net_gates.specs.declared.gate.Gate.TheVariants as gate
use Rattle.run_step.specs.declared.cell.Cell.TheVariants.{Nothing, Timer, Seal}
use Rattle.run_step.specs.{declared.cell.Cell.Cell, GatePairs.GateSignals}

-- the cell is a timer's
abbrev pub HasTimer : {T S P : Type 0} → Cell T S P → Type 0
HasTimer Nothing = ⊥
HasTimer (Timer c x y) = Unit {0}
HasTimer (Seal s) = ⊥

-- the cell is a seal's
abbrev pub HasSeal : {T S P : Type 0} → Cell T S P → Type 0
HasSeal Nothing = ⊥
HasSeal (Timer c x y) = ⊥
HasSeal (Seal s) = Unit {0}

-- the cell is of the gate's kind
abbrev pub HasCell : {T S P : Type 0} → Gate → Cell T S P → Type 0
HasCell (gate.Const v) cell = Unit {0}
HasCell (gate.Seen p) cell = Unit {0}
HasCell (gate.Loss c) cell = Unit {0}
HasCell (gate.Raw c) cell = Unit {0}
HasCell (gate.Not a) cell = Unit {0}
HasCell (gate.And a b) cell = Unit {0}
HasCell (gate.Or a b) cell = Unit {0}
HasCell (gate.Timer a p d) cell = HasTimer cell
HasCell (gate.Seal a b) cell = HasSeal cell

-- timed cells with these spans stand for these inputs, and the spans have these ends
pub record CellsStand {C S : Type 0} (stands_for : C → S → S → ℕ → List Rails → Type 0)
    (ends : S → ℕ → Ends) (lane : ℕ) (p d : Ends) (inputs : List Rails) (cells : C)
    (pickup dropout : S) : Type 0 where
  pub pickup_is : ends pickup lane ≡ p
  pub dropout_is : ends dropout lane ≡ d
  pub stands : stands_for cells pickup dropout lane inputs

-- the cell is a timer's and stands for these ends and inputs
abbrev pub TimerStands : {C S V : Type 0} → (C → S → S → ℕ → List Rails → Type 0)
    → (S → ℕ → Ends) → ℕ → Ends → Ends → List Rails → Cell C V S → Type 0
TimerStands stands_for ends lane p d inputs Nothing = ⊥
TimerStands stands_for ends lane p d inputs (Timer c x y) =
    CellsStand stands_for ends lane p d inputs c x y
TimerStands stands_for ends lane p d inputs (Seal s) = ⊥

-- the cell is a seal's and stands for these inputs
abbrev pub SealStands : {C V S : Type 0} → (V → ℕ → Rails) → ℕ → List Rails → List Rails → Cell C V S
    → Type 0
SealStands rails lane sets holds Nothing = ⊥
SealStands rails lane sets holds (Timer c x y) = ⊥
SealStands rails lane sets holds (Seal s) = SealStandsFor (rails s lane) sets holds

-- a gate's cell stands for the pairs u of the gate's arguments at the ticks before t
abbrev pub CellStands : {C S V : Type 0} → SignalOf V S → (C → S → S → ℕ → List Rails → Type 0) → ℕ
    → PairWorld → GateSignals → ℕ → Gate → Cell C V S → Type 0
CellStands signal stands_for lane w u t (gate.Const v) cell = Unit {0}
CellStands signal stands_for lane w u t (gate.Seen p) cell = Unit {0}
CellStands signal stands_for lane w u t (gate.Loss c) cell = Unit {0}
CellStands signal stands_for lane w u t (gate.Raw c) cell = Unit {0}
CellStands signal stands_for lane w u t (gate.Not a) cell = Unit {0}
CellStands signal stands_for lane w u t (gate.And a b) cell = Unit {0}
CellStands signal stands_for lane w u t (gate.Or a b) cell = Unit {0}
CellStands signal stands_for lane w u t (gate.Timer a p d) cell =
    TimerStands stands_for signal.ends lane (w.time p) (w.time d) (first_ticks (u a.0) t) cell
CellStands signal stands_for lane w u t (gate.Seal a b) cell =
    SealStands signal.rails lane (first_ticks (u a.0) t) (first_ticks (u b.0) t) cell
