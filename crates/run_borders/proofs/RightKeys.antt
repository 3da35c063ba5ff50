-- Keys that are derived from keys: round by round they are right for one tick more.
use Rattle.std.proofs.Common.{◌≡◌, ◌<◌, ◌≤◌, ◌+◌, ℕ, List, [], length, refl, sym, ap, ◌∙◌, arith}
use Rattle.std.specs.Prelude.{get_or, slice_get, Some}
use Rattle.model_history.specs.Laws.{HistoryLaws, RailsReadThePast}
use Rattle.model_history.specs.Rails.{Rails, rails_not, rails_and, rails_or}
use Rattle.model_line.specs.Parameters.{terminal_count}
use Rattle.model_logic.specs.Tree.{Tree, Const, Seen, Loss, Raw, Not, And, Or, Timer, Seal}
use Rattle.model_logic.specs.PairMean.{PairSignals, pair_mean}
use Rattle.model_logic.specs.Solution.{SameBefore}
use Rattle.model_logic.specs.{Laws.TreesNameTheLine, Names.Names}
use Rattle.model_logic.specs.Logic.{key_tree, trip_tree}
use Rattle.model_fine.specs.Loose.{loose_world_of}
use Rattle.net_gates.specs.Formulas.{formula_of}
use Rattle.net_gates.specs.NetOf.{key_of, trip_of}
use Rattle.net_gates.specs.{declared.gate.Gate.Gate, Gates.HasArguments}
use Rattle.net_gates.specs.declared.gate.Gate.TheVariants as gate
use Rattle.run_signal.specs.declared.tern.Tern.{Tern}
use Rattle.run_step.specs.GatePairs.{GatesHaveTheirKind, GateSignals, gate_pairs, kind_pair}
use Rattle.run_waves.specs.waves.Waves.{wave_at, IsWaveOf}
use Rattle.run_waves.specs.derived.Claims.{pairs_of}
use Rattle.run_borders.specs.declared.run.LooseRun.{LooseRun}
use Rattle.run_borders.specs.LooseRuns.{CanRun, line_of, net_of, world_of, steady_box}
use Rattle.run_borders.specs.LooseWaves.{AreGateWaves, AreKeysOf, AreRightBefore, AreLooseWaves}
use Rattle.run_borders.specs.LooseWaves.{key_wave}

module _ (laws : HistoryLaws) (run : LooseRun) (can : CanRun run) where
  same_earlier : (u v : PairSignals) (r t : ℕ) → r ≤ t → SameBefore (line_of run) u v t
      → SameBefore (line_of run) u v r
  same_earlier u v r t le same k s kn lt = same k s kn (omega arith)

  -- the pair of a tree rests on earlier keys alone
  pair_past : (u v : PairSignals) (x : Tree) (t : ℕ) → Names (line_of run) x
      → SameBefore (line_of run) u v t
      → pair_mean (world_of run) u x t ≡ pair_mean (world_of run) v x t
  unfolding pair_mean Names loose_world_of steady_box
  pair_past u v (Const b) t h same = refl
  pair_past u v (Seen p) t h same = refl
  pair_past u v (Loss c) t h same = refl
  pair_past u v (Raw c) t h same =
      laws.delays_earlier.rails (u ((world_of run).from c)) (v ((world_of run).from c))
      ((world_of run).delay c) t
      (λ r low high. same ((world_of run).from c) r ((line_of run).pairs_once.from c h)
      (omega (arith, low, can.delayed c h)))
  pair_past u v (Not x) t h same = ap rails_not (pair_past u v x t h same)
  pair_past u v (And x y) t h same =
      ap (λ (a : Rails). rails_and a (pair_mean (world_of run) u y t)) (pair_past u v x t h.0 same)
      ∙ ap (λ (a : Rails). rails_and (pair_mean (world_of run) v x t) a) (pair_past u v y t h.1 same)
  pair_past u v (Or x y) t h same =
      ap (λ (a : Rails). rails_or a (pair_mean (world_of run) u y t)) (pair_past u v x t h.0 same)
      ∙ ap (λ (a : Rails). rails_or (pair_mean (world_of run) v x t) a) (pair_past u v y t h.1 same)
  pair_past u v (Timer x p e) t h same =
      laws.rails_past.timed (pair_mean (world_of run) u x) (pair_mean (world_of run) v x)
      ((world_of run).time p) ((world_of run).time e) t
      (λ r le. pair_past u v x r h.0 (same_earlier u v r t le same))
  pair_past u v (Seal x y) t h same =
      laws.rails_past.sealed (pair_mean (world_of run) u x) (pair_mean (world_of run) u y)
      (pair_mean (world_of run) v x) (pair_mean (world_of run) v y) t
      (λ r le. pair_past u v x r h.0 (same_earlier u v r t le same))
      (λ r le. pair_past u v y r h.1 (same_earlier u v r t le same))

module _ (run : LooseRun) (keys : PairSignals) (waves : List (List Tern))
    (are : AreGateWaves run keys waves) (k t : ℕ) (kn : k < terminal_count (line_of run))
    (early : t < (line_of run).horizon) where
  inside : k < length (net_of run).keys
  inside = let e = run.compiled.now.of_line.terminals in omega (arith, e, kn)

  -- the waves of the gates of keys and trips are what is derived from the keys
  pub key_derived : key_wave run waves k t ≡ pair_mean (world_of run) keys (key_tree (line_of run) k) t
  key_derived =
      (are.each (key_of (net_of run) k) (run.compiled.now.of_line.laws.keys k inside)).values t early
      ∙ ap (λ (x : Tree). pair_mean (world_of run) keys x t) (run.compiled.now.of_line.keys k kn)

  pub trip_derived : pairs_of waves (trip_of (net_of run) k) t
      ≡ pair_mean (world_of run) keys (trip_tree (line_of run) k) t
  trip_derived =
      let same = run.compiled.now.of_line.laws.same in
      (are.each (trip_of (net_of run) k)
      (run.compiled.now.of_line.laws.trips k (omega (arith, same, inside)))).values t early
      ∙ ap (λ (x : Tree). pair_mean (world_of run) keys x t) (run.compiled.now.of_line.trips k kn)

-- where the keys are what is derived from them, at each tick, it is an interval history
pub are_loose : (run : LooseRun) (keys waves : List (List Tern))
    → AreGateWaves run (pairs_of keys) waves
    → AreRightBefore run (pairs_of keys) waves (line_of run).horizon → AreLooseWaves run waves
are_loose run keys waves are right = record {
  history = record {
    key = pairs_of keys;
    trip = λ k t. pair_mean (world_of run) (pairs_of keys) (trip_tree (line_of run) k) t;
  };
  is = record {
    keys = λ k t kn lt. right k t kn lt ∙ key_derived run (pairs_of keys) waves are k t kn lt;
    trips = λ k t kn lt. refl;
  };
  gates = are;
  keys = λ k t kn lt. sym (right k t kn lt);
  trips = λ k t kn lt. trip_derived run (pairs_of keys) waves are k t kn lt;
}

-- keys that are those of the gates are right at each tick
pub right_at_once : (run : LooseRun) (keys waves : List (List Tern))
    → AreKeysOf (net_of run) waves keys
    → AreRightBefore run (pairs_of keys) waves (line_of run).horizon
right_at_once run keys waves of k r kn lt =
    let e = run.compiled.now.of_line.terminals in
    ap (λ (wave : List Tern). wave_at wave r) (of.each k (omega (arith, e, kn)))

-- one round makes them right for one tick more
pub right_more : HistoryLaws → TreesNameTheLine → (run : LooseRun) → CanRun run
    → (keys next waves new : List (List Tern)) (t : ℕ) → t < (line_of run).horizon
    → AreGateWaves run (pairs_of keys) waves → AreKeysOf (net_of run) waves next
    → AreGateWaves run (pairs_of next) new → AreRightBefore run (pairs_of keys) waves t
    → AreRightBefore run (pairs_of next) new (t + 1)
right_more laws names run can keys next waves new t inside are of are_new right k r kn lt =
    let early : r < (line_of run).horizon = omega (arith, lt, inside) in
    right_at_once run next waves of k r kn early
    ∙ key_derived run (pairs_of keys) waves are k r kn early
    ∙ pair_past laws run can (pairs_of keys) (pairs_of next) (key_tree (line_of run) k) r
    (names.keys (line_of run) k kn)
    (λ j s jn before. right j s jn (omega (arith, before, lt))
    ∙ sym (right_at_once run next waves of j s jn (omega (arith, before, early))))
    ∙ sym (key_derived run (pairs_of next) new are_new k r kn early)

-- ---- the wave of one gate more

module _ (past : RailsReadThePast) (kinds : GatesHaveTheirKind) (run : LooseRun)
    (keys : PairSignals) (waves : List (List Tern)) (i : ℕ)
    (before : (j : ℕ) → j < i → IsWaveOf (get_or waves j []) (line_of run).horizon
    (λ t. pair_mean (world_of run) keys (formula_of (net_of run).gates j) t)) where
  abbrev trees : GateSignals
  trees = gate_pairs (world_of run) keys (net_of run).gates

  known : (j t : ℕ) → j < i → t < (line_of run).horizon → pairs_of waves j t ≡ trees j t
  unfolding gate_pairs
  known j t lt early = (before j lt).values t early

  -- a gate's kind over the earlier waves is that over the pairs of their trees
  kind_known : (g : Gate) (t : ℕ) → HasArguments i g → t < (line_of run).horizon
      → kind_pair (world_of run) keys (pairs_of waves) g t ≡ kind_pair (world_of run) keys trees g t
  kind_known (gate.Const b) t has early = refl
  kind_known (gate.Seen p) t has early = refl
  kind_known (gate.Loss c) t has early = refl
  kind_known (gate.Raw c) t has early = refl
  kind_known (gate.Not a) t has early = ap rails_not (known a.0 t has early)
  kind_known (gate.And a b) t has early =
      ap (λ (x : Rails). rails_and x (pairs_of waves b.0 t)) (known a.0 t has.0 early)
      ∙ ap (rails_and (trees a.0 t)) (known b.0 t has.1 early)
  kind_known (gate.Or a b) t has early =
      ap (λ (x : Rails). rails_or x (pairs_of waves b.0 t)) (known a.0 t has.0 early)
      ∙ ap (rails_or (trees a.0 t)) (known b.0 t has.1 early)
  kind_known (gate.Timer a p d) t has early =
      past.timed (pairs_of waves a.0) (trees a.0) ((world_of run).time p) ((world_of run).time d) t
      (λ r le. known a.0 r has (omega (arith, le, early)))
  kind_known (gate.Seal a b) t has early =
      past.sealed (pairs_of waves a.0) (pairs_of waves b.0) (trees a.0) (trees b.0) t
      (λ r le. known a.0 r has.0 (omega (arith, le, early)))
      (λ r le. known b.0 r has.1 (omega (arith, le, early)))

  pub gate_wave_of : (g : Gate) (wave : List Tern) → slice_get (net_of run).gates i ≡ Some g
      → IsWaveOf wave (line_of run).horizon
      (λ t. kind_pair (world_of run) keys (pairs_of waves) g t)
      → IsWaveOf wave (line_of run).horizon
      (λ t. pair_mean (world_of run) keys (formula_of (net_of run).gates i) t)
  unfolding gate_pairs
  gate_wave_of g wave at is = record {
    long = is.long;
    values = λ t early.
        is.values t early
        ∙ kind_known g t (run.compiled.now.of_line.laws.gates.earlier i g at) early
        ∙ sym (kinds (world_of run) keys (net_of run).gates i g t
        run.compiled.now.of_line.laws.gates at);
  }
