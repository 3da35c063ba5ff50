-- The wave of a gate over the waves of the earlier gates is that of its tree.
use Rattle.std.proofs.Common.{◌≡◌, ℕ, ◌<◌, List, [], Some, refl, sym, ◌∙◌, ap, arith}
use Rattle.std.specs.Prelude.{slice_get, get_or}
use Rattle.model_history.specs.Rails.{Rails, rails_not, rails_and, rails_or}
use Rattle.model_history.specs.Laws.{RailsReadThePast}
use Rattle.run_signal.specs.declared.tern.Tern.{Tern}
use Rattle.model_logic.specs.PairMean.{PairWorld, PairSignals, pair_mean}
use Rattle.net_gates.specs.declared.gate.Gate.TheVariants.{Const, Seen, Loss, Raw, Not, And, Or}
use Rattle.net_gates.specs.declared.gate.Gate.TheVariants.{Timer, Seal}
use Rattle.net_gates.specs.Formulas.{formula_of}
use Rattle.net_gates.specs.{declared.gate.Gate.Gate, Gates.AreGates, Gates.HasArguments}
use Rattle.run_step.specs.GatePairs.{GateSignals, GatesHaveTheirKind, gate_pairs, kind_pair}
use Rattle.run_waves.specs.waves.Waves.{IsWaveOf}
use Rattle.run_waves.specs.derived.Claims.{pairs_of}

module _ (past : RailsReadThePast) (w : PairWorld) (keys : PairSignals) (n horizon : ℕ)
    (u v : GateSignals)
    (same : (i t : ℕ) → i < n → t < horizon → u i t ≡ v i t) where
  -- a kind over gates that are the same at each tick of the run
  kind_pair-same : (g : Gate) (t : ℕ) → HasArguments n g → t < horizon
      → kind_pair w keys u g t ≡ kind_pair w keys v g t
  kind_pair-same (Const b) t has early = refl
  kind_pair-same (Seen p) t has early = refl
  kind_pair-same (Loss c) t has early = refl
  kind_pair-same (Raw c) t has early = refl
  kind_pair-same (Not a) t has early = ap rails_not (same a.0 t has early)
  kind_pair-same (And a b) t has early =
      ap (λ (x : Rails). rails_and x (u b.0 t)) (same a.0 t has.0 early)
      ∙ ap (rails_and (v a.0 t)) (same b.0 t has.1 early)
  kind_pair-same (Or a b) t has early =
      ap (λ (x : Rails). rails_or x (u b.0 t)) (same a.0 t has.0 early)
      ∙ ap (rails_or (v a.0 t)) (same b.0 t has.1 early)
  kind_pair-same (Timer a p d) t has early =
      past.timed (u a.0) (v a.0) (w.time p) (w.time d) t
      (λ r le. same a.0 r has (omega arith))
  kind_pair-same (Seal a b) t has early =
      past.sealed (u a.0) (u b.0) (v a.0) (v b.0) t
      (λ r le. same a.0 r has.0 (omega arith)) (λ r le. same b.0 r has.1 (omega arith))

module _ (past : RailsReadThePast) (kinds : GatesHaveTheirKind) (w : PairWorld)
    (keys : PairSignals) (gates : List Gate) (laws : AreGates gates)
    (waves : List (List Tern)) (i horizon : ℕ)
    (before : (j : ℕ) → j < i → IsWaveOf (get_or waves j []) horizon
    (λ t. pair_mean w keys (formula_of gates j) t)) where
  -- the wave of a gate's kind over the earlier waves
  pub tree_wave : (g : Gate) (wave : List Tern) → slice_get gates i ≡ Some g
      → IsWaveOf wave horizon (λ t. kind_pair w keys (pairs_of waves) g t)
      → IsWaveOf wave horizon (λ t. pair_mean w keys (formula_of gates i) t)
  unfolding gate_pairs
  tree_wave g wave at is = record {
    long = is.long;
    values = λ t early.
        is.values t early
        ∙ kind_pair-same past w keys i horizon (pairs_of waves) (gate_pairs w keys gates)
        (λ j r lt inside. (before j lt).values r inside) g t (laws.earlier i g at) early
        ∙ sym (kinds w keys gates i g t laws at);
  }
