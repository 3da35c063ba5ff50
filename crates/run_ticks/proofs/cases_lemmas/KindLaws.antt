-- A gate whose kind is known.
use Rattle.run_signal.specs.Signals.{SignalOf}
use Rattle.std.proofs.Common.{◌≡◌, ℕ, List, sym, ◌∙◌, ap, subst}
use Rattle.model_history.specs.Rails.{Rails, rails_not, rails_and, rails_or}
use Rattle.model_logic.specs.PairMean.{PairWorld, PairSignals}
use Rattle.net_gates.specs.{declared.gate.GateId.GateId, declared.gate.Gate.Gate}
use Rattle.net_gates.specs.declared.gate.Gate.TheVariants.{Not, And, Or}
use Rattle.run_step.specs.GatePairs.{GateSignals, kind_pair}
use Rattle.run_step.specs.{declared.cell.Cell.Cell, CellStands.HasCell, CellStands.CellStands}

-- a gate of this kind has what the kind has
pub has_by : {C S V : Type 0} (gate kind : Gate) (cell : Cell C V S) → gate ≡ kind
    → HasCell kind cell → HasCell gate cell
has_by gate kind cell is has = subst (λ (g : Gate). HasCell g cell) (sym is) has

pub stands_by : {C S V : Type 0} (signal : SignalOf V S)
    (stands_for : C → S → S → ℕ → List Rails → Type 0) (lane : ℕ) (w : PairWorld) (u : GateSignals)
    (t : ℕ) (gate kind : Gate) (cell : Cell C V S) → gate ≡ kind
    → CellStands signal stands_for lane w u t kind cell
    → CellStands signal stands_for lane w u t gate cell
stands_by signal stands_for lane w u t gate kind cell is stand =
    subst (λ (g : Gate). CellStands signal stands_for lane w u t g cell) (sym is) stand

module _ (w : PairWorld) (keys : PairSignals) (u : GateSignals) (t : ℕ) (gate : Gate)
    (y : Rails) where
  pub pair_by : (kind : Gate) → gate ≡ kind → y ≡ kind_pair w keys u kind t
      → y ≡ kind_pair w keys u gate t
  pair_by kind is e = e ∙ ap (λ (g : Gate). kind_pair w keys u g t) (sym is)

  pub not_pair : (a : GateId) → gate ≡ Not a → (x : Rails) → x ≡ u a.0 t → y ≡ rails_not x
      → y ≡ kind_pair w keys u gate t
  not_pair a is x agrees e = pair_by (Not a) is (e ∙ ap rails_not agrees)

  pub and_pair : (a b : GateId) → gate ≡ And a b → (x z : Rails) → x ≡ u a.0 t → z ≡ u b.0 t
      → y ≡ rails_and x z → y ≡ kind_pair w keys u gate t
  and_pair a b is x z agrees too e =
      pair_by (And a b) is
      (e ∙ ap (λ (r : Rails). rails_and r z) agrees ∙ ap (rails_and (u a.0 t)) too)

  pub or_pair : (a b : GateId) → gate ≡ Or a b → (x z : Rails) → x ≡ u a.0 t → z ≡ u b.0 t
      → y ≡ rails_or x z → y ≡ kind_pair w keys u gate t
  or_pair a b is x z agrees too e =
      pair_by (Or a b) is
      (e ∙ ap (λ (r : Rails). rails_or r z) agrees ∙ ap (rails_or (u a.0 t)) too)
