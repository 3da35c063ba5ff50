-- The pair of a gate under levels, from the pairs of its arguments.
use Rattle.std.proofs.Common.{◌≡◌, ℕ, Bool, List, Some, refl, ◌∙◌, ap}
use Rattle.std.specs.Prelude.{Option, None}
use Rattle.model_history.specs.Rails.{Rails}
use Rattle.model_logic.specs.PairMean.{PairWorld, PairSignals}
use Rattle.model_logic.specs.Tree.{Tree}
use Rattle.model_logic.specs.Tree as tree
use Rattle.model_settle.specs.Under.{assumed_or, pair_under, own_pair}
use Rattle.net_gates.specs.declared.gate.Gate.TheVariants.{Const, Seen, Loss, Raw, Not, And, Or}
use Rattle.net_gates.specs.declared.gate.Gate.TheVariants.{Timer, Seal}
use Rattle.net_gates.specs.Gates.{AreGates}
use Rattle.net_gates.specs.{declared.gate.Gate.Gate, Formulas.formula_of, Formulas.kind_over}
use Rattle.run_step.specs.GatePairs.{kind_pair}
use Rattle.run_step.specs.GatePairLaws.{GatesAreTheirKinds}
use Rattle.run_ticks.specs.{cases.Masks.AreOfTimers, cases.Ticks.under_pairs, cases.Ticks.own_pairs}
use Rattle.run_ticks.specs.cases.Ticks.{AreToldUnder}

none_put : (o : Option Bool) (own : Rails) → ((v : Bool) → o ≡ Some v → ⊥)
    → own ≡ assumed_or o own
none_put None own none = refl
none_put (Some v) own none = absurd (none v refl)

module _ (level : Tree → ℕ → Option Bool) (w : PairWorld) (keys : PairSignals) where
  own_kind : (gates : List Gate) (g : Gate) (t : ℕ)
      → own_pair level w keys (kind_over gates g) t
      ≡ kind_pair w keys (under_pairs level w keys gates) g t
  unfolding pair_under own_pair formula_of
  own_kind gates (Const v) t = refl
  own_kind gates (Seen p) t = refl
  own_kind gates (Loss c) t = refl
  own_kind gates (Raw c) t = refl
  own_kind gates (Not a) t = refl
  own_kind gates (And a b) t = refl
  own_kind gates (Or a b) t = refl
  own_kind gates (Timer a p d) t = refl
  own_kind gates (Seal a b) t = refl

  module _ (timers : AreOfTimers level) where
    -- no level is put in place of a tree that is no timed element
    put_tree : (x : Tree) (t : ℕ)
        → pair_under level w keys x t ≡ assumed_or (level x t) (own_pair level w keys x t)
    unfolding pair_under own_pair
    put_tree (tree.Const v) t = none_put (level (tree.Const v) t) _ (timers (tree.Const v) t)
    put_tree (tree.Seen p) t = none_put (level (tree.Seen p) t) _ (timers (tree.Seen p) t)
    put_tree (tree.Loss c) t = none_put (level (tree.Loss c) t) _ (timers (tree.Loss c) t)
    put_tree (tree.Raw c) t = none_put (level (tree.Raw c) t) _ (timers (tree.Raw c) t)
    put_tree (tree.Not x) t = none_put (level (tree.Not x) t) _ (timers (tree.Not x) t)
    put_tree (tree.And x y) t = none_put (level (tree.And x y) t) _ (timers (tree.And x y) t)
    put_tree (tree.Or x y) t = none_put (level (tree.Or x y) t) _ (timers (tree.Or x y) t)
    put_tree (tree.Timer x p d) t = refl
    put_tree (tree.Seal x y) t = none_put (level (tree.Seal x y) t) _ (timers (tree.Seal x y) t)

    pub gates_told : GatesAreTheirKinds → (gates : List Gate) (t : ℕ) → AreGates gates
        → AreToldUnder level (formula_of gates) w keys (under_pairs level w keys gates)
        (own_pairs level w keys gates) t gates
    gates_told kinds gates t laws = record {
      owns = λ i g at.
          ap (λ (x : Tree). own_pair level w keys x t) (kinds gates i g laws at)
          ∙ own_kind gates g t;
      put = λ i. put_tree (formula_of gates i) t;
    }
