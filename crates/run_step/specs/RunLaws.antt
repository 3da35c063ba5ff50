-- From the values of all ticks to the interval history of the run's own keys.
use Rattle.std.proofs.Common.{◌≡◌, ℕ, ◌*◌, ◌<◌, ◌≤◌, List, length, sym, ◌∙◌, ap, subst, arith}
use Rattle.model_history.specs.Rails.{Rails, Covers}
use Rattle.model_logic.specs.PairMean.{PairWorld, PairSignals, pair_mean}
use Rattle.model_logic.specs.Choice.{Box, LeastFromOne, world_of, pair_world_of}
use Rattle.model_logic.specs.Histories.{PairHistory, IsPairHistory}
use Rattle.model_logic.specs.Solution.{SameBefore, the_keys}
use Rattle.model_logic.specs.{Names.Names, Tree.Tree, Mean.mean, Logic.key_tree, Laws.LineLaws}
use Rattle.model_line.specs.{declared.line.Line.Line, declared.script.Script.Script}
use Rattle.model_line.specs.Parameters.{terminal_count}
use Rattle.net_gates.specs.declared.gate.GateId.{GateId}
use Rattle.net_gates.specs.NetOf.{NetOf, IsNet, IsNetOf, AreGatesOf, key_of, trip_of, id_at}
use Rattle.net_gates.specs.{NetLaws.GatesStandForTheirTrees, Formulas.formula_of}
use Rattle.run_step.specs.GatePairs.{GateSignals, gate_pairs, line_pairs}
use Rattle.run_step.specs.Ticks.{ValuesTold}
use Rattle.run_step.specs.WavesOf.{WavesOf, AreWaves, wave_pair, waves_history}
use Rattle.run_step.specs.Runs.{AreWavesOf, HavePairs, IsTheHistory, CoverChoices}
use Rattle.run_step.specs.ValueLaws.{wave_told}

-- the values of all ticks and the lists of a net make waves
pub made_waves : {V : Type 0} (line : Line) (net : NetOf) (made : WavesOf V) → IsNet net
    → line.horizon ≤ 4000 → AreWavesOf net line made
    → length made.values ≡ line.horizon * length net.gates → AreWaves made
made_waves line net made laws short of count = record {
  count = count ∙ ap (λ (m : ℕ). m * length net.gates) (sym of.horizon)
      ∙ ap (λ (m : ℕ). made.horizon * m) (sym of.width);
  narrow = subst (λ (n : ℕ). n ≤ 512) (sym of.width) laws.gates.few;
  short = subst (λ (n : ℕ). n ≤ 4000) (sym of.horizon) short;
  keys = subst (λ (n : ℕ). AreGatesOf made.keys n) (sym of.width)
      (subst (λ (ids : List GateId). AreGatesOf ids (length net.gates)) (sym of.keys) laws.keys);
  trips = subst (λ (n : ℕ). AreGatesOf made.trips n) (sym of.width)
      (subst (λ (ids : List GateId). AreGatesOf ids (length net.gates)) (sym of.trips) laws.trips);
  same = ap (λ (ids : List GateId). length ids) of.trips ∙ laws.same
      ∙ sym (ap (λ (ids : List GateId). length ids) of.keys);
}

module _ (laws : LineLaws) (gates : GatesStandForTheirTrees) (line : Line) (script : Script)
    (box : Box) (d : LeastFromOne line box) (net : NetOf) (of_line : IsNetOf line net) where
  abbrev world : PairWorld
  world = pair_world_of line script box

  abbrev solution : PairSignals
  solution = the_keys world (key_tree line)

  named : (i : ℕ) → Names line (formula_of net.gates i)
  named i = gates.names line net.gates i of_line.named

  -- the pair of a terminal's key gate is its key
  pub key_pair : (k t : ℕ) → k < terminal_count line → t < line.horizon
      → line_pairs line script box net (key_of net k) t ≡ solution k t
  unfolding gate_pairs
  key_pair k t kn lt =
      ap (λ (x : Tree). pair_mean world solution x t) (of_line.keys k kn)
      ∙ sym (laws.values.solution line script box d k t kn lt)

  key_there : (k : ℕ) → k < terminal_count line → key_of net k < length net.gates
  key_there k kn =
      of_line.laws.keys k (subst (λ (n : ℕ). k < n) (sym of_line.terminals) kn)

  trip_there : (k : ℕ) → k < terminal_count line → trip_of net k < length net.gates
  trip_there k kn =
      of_line.laws.trips k
      (subst (λ (n : ℕ). k < n) (sym (of_line.laws.same ∙ of_line.terminals)) kn)

  module _ {V : Type 0} (rails : V → ℕ → Rails) (lane : ℕ) (waves : WavesOf V)
      (of : AreWavesOf net line waves) where
    abbrev own : PairHistory
    own = waves_history rails lane waves

    own_key : (k t : ℕ) → own.key k t ≡ wave_pair rails lane waves (key_of net k) t
    own_key k t =
        ap (λ (ids : List GateId). wave_pair rails lane waves (id_at ids k) t) of.keys

    own_trip : (k t : ℕ) → own.trip k t ≡ wave_pair rails lane waves (trip_of net k) t
    own_trip k t =
        ap (λ (ids : List GateId). wave_pair rails lane waves (id_at ids k) t) of.trips

    pub run_pairs : AreWaves waves
        → ValuesTold rails lane (line_pairs line script box net) (length net.gates) waves.values
        → HavePairs rails lane line script box net waves
    unfolding gate_pairs
    run_pairs are told gate t inside before =
        let pairs : GateSignals = line_pairs line script box net in
        let wide : waves.width ≡ length net.gates = of.width in
        let long : waves.horizon ≡ line.horizon = of.horizon in
        let told' : ValuesTold rails lane pairs waves.width waves.values =
        subst (λ (n : ℕ). ValuesTold rails lane pairs n waves.values) (sym wide) told in
        let tells : (i r : ℕ) → i < length net.gates → r < line.horizon
        → wave_pair rails lane waves i r ≡ pairs i r =
        λ i r il rl. wave_told rails lane pairs waves are told' i r
        (omega (arith, wide, il)) (omega (arith, long, rl)) in
        let same : SameBefore line solution own.key t =
        λ k r kn lt. sym (own_key k r ∙ tells (key_of net k) r (key_there k kn) (omega arith)
        ∙ key_pair k r kn (omega arith)) in
        tells gate t inside before
        ∙ laws.values.pair line script box solution own.key (formula_of net.gates gate) t d before
        (named gate) same

    module _ (have : HavePairs rails lane line script box net waves) where
      pub own_history : IsPairHistory line script box own
      own_history = record {
        keys = λ k t kn lt.
            own_key k t ∙ have (key_of net k) t (key_there k kn) lt
            ∙ ap (λ (x : Tree). pair_mean world own.key x t) (of_line.keys k kn);
        trips = λ k t kn lt.
            own_trip k t ∙ have (trip_of net k) t (trip_there k kn) lt
            ∙ ap (λ (x : Tree). pair_mean world own.key x t) (of_line.trips k kn);
      }

      pub run_history : IsTheHistory line script box own
      run_history = record {
        is = own_history;
        only = λ others also. laws.interval_histories.only line script box own others d own_history also;
      }

      pub run_covers : CoverChoices rails lane line script box net waves
      run_covers = record {
        histories = λ choice h within is_h.
            laws.boxes.choices line script box choice own h d within own_history is_h;
        gates = λ choice h within is_h gate t inside before.
            subst
            (λ (x : Rails). Covers x
            (mean (world_of line script choice) h.key (formula_of net.gates gate) t))
            (sym (have gate t inside before))
            (laws.boxes.trees line script box choice own h d within own_history is_h
            (formula_of net.gates gate) t before (named gate));
      }
