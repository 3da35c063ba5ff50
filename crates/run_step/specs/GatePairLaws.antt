-- The pair of a gate is its kind over the pairs of its arguments.
use Rattle.std.proofs.Common.{◌≡◌, ℕ, List, Some, refl, ◌∙◌, ap}
use Rattle.std.specs.Prelude.{slice_get}
use Rattle.model_logic.specs.PairMean.{PairWorld, PairSignals, pair_mean}
use Rattle.net_gates.specs.declared.gate.Gate.TheVariants.{Const, Seen, Loss, Raw, Not, And, Or}
use Rattle.net_gates.specs.declared.gate.Gate.TheVariants.{Timer, Seal}
use Rattle.net_gates.specs.Gates.{AreGates}
use Rattle.net_gates.specs.{declared.gate.Gate.Gate, Formulas.formula_of, Formulas.kind_over}
use Rattle.run_step.specs.GatePairs.{gate_pairs, kind_pair, GatesHaveTheirKind}

module _ (w : PairWorld) (keys : PairSignals) (gates : List Gate) where
  kind_pair-is : (g : Gate) (t : ℕ)
      → pair_mean w keys (kind_over gates g) t ≡ kind_pair w keys (gate_pairs w keys gates) g t
  unfolding pair_mean gate_pairs formula_of
  kind_pair-is (Const v) t = refl
  kind_pair-is (Seen p) t = refl
  kind_pair-is (Loss c) t = refl
  kind_pair-is (Raw c) t = refl
  kind_pair-is (Not a) t = refl
  kind_pair-is (And a b) t = refl
  kind_pair-is (Or a b) t = refl
  kind_pair-is (Timer a p d) t = refl
  kind_pair-is (Seal a b) t = refl

-- each gate stands for its own kind over the trees of its arguments
abbrev pub GatesAreTheirKinds : Type 0
GatesAreTheirKinds = (gates : List Gate) (i : ℕ) (g : Gate) → AreGates gates
    → slice_get gates i ≡ Some g → formula_of gates i ≡ kind_over gates g

pub gate_pairs-kind : GatesAreTheirKinds → GatesHaveTheirKind
unfolding gate_pairs
gate_pairs-kind kinds w keys gates i g t laws at =
    ap (λ x. pair_mean w keys x t) (kinds gates i g laws at) ∙ kind_pair-is w keys gates g t
