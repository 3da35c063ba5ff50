-- From what was kept to the interval history of the run's own keys.
use Rattle.std.proofs.Common.{◌≡◌, ℕ, ◌<◌, List, length, sym, ◌∙◌, ap, arith}
use Rattle.std.specs.Prelude.{slice_get}
use Rattle.model_history.specs.{Rails.Rails, Rails.rails_at, Laws.HistoryLaws}
use Rattle.model_line.specs.{declared.script.Script.Script, declared.line.Line.Line}
use Rattle.model_line.specs.Parameters.{terminal_count}
use Rattle.model_logic.specs.PairMean.{PairWorld, PairSignals, pair_mean}
use Rattle.model_logic.specs.Choice.{Box, LeastFromOne, pair_world_of}
use Rattle.model_logic.specs.Histories.{PairHistory, IsPairHistory}
use Rattle.model_logic.specs.Solution.{SameBefore, the_keys}
use Rattle.model_logic.specs.{Laws.LineLaws, Tree.Tree, Logic.key_tree}
use Rattle.net_gates.specs.NetLaws.{GatesStandForTheirTrees}
use Rattle.net_gates.specs.{Formulas.formula_of, NetOf.NetOf, NetOf.IsNetOf, NetOf.trip_of}
use Rattle.run_signal.specs.SentKeys.{SentKeys}
use Rattle.run_step.specs.{GatePairs.gate_pairs, GatePairs.line_pairs, Runs.IsTheHistory}
use Rattle.run_step.specs.{Ticks.KeysSent, Ticks.AreSent}
use Rattle.model_history.specs.ListLaws.{exists_at}
use Rattle.run_changes.specs.changes.Tracks.{pair_of}

-- the pair of a tick that was kept
pub kept_pair : {V : Type 0} (laws : HistoryLaws) (rails : V → ℕ → Rails) (lane : ℕ) (keys : PairSignals)
    (n horizon t k r : ℕ) (tracks : List (SentKeys V)) → AreSent n horizon t tracks
    → KeysSent rails lane keys t tracks → k < n → r < t
    → pair_of rails lane r (slice_get tracks k) ≡ keys k r
kept_pair laws rails lane keys n horizon t k r tracks are kept kn lt =
    let count : length tracks ≡ n = are.count in
    let (s, at) = exists_at tracks k (omega (arith, count, kn)) in
    ap (pair_of rails lane r) at
    ∙ ap (λ (l : List Rails). rails_at l r) (kept k s at)
    ∙ laws.recordings.rails (keys k) t r lt

module _ (laws : LineLaws) (gates : GatesStandForTheirTrees) (line : Line) (script : Script)
    (box : Box) (d : LeastFromOne line box) (net : NetOf) (of_line : IsNetOf line net) where
  abbrev world : PairWorld
  world = pair_world_of line script box

  abbrev solution : PairSignals
  solution = the_keys world (key_tree line)

  module _ (own : PairHistory)
      (keys : (k t : ℕ) → k < terminal_count line → t < line.horizon
      → own.key k t ≡ solution k t)
      (trips : (k t : ℕ) → k < terminal_count line → t < line.horizon
      → own.trip k t ≡ line_pairs line script box net (trip_of net k) t) where
    before : (t : ℕ) → t < line.horizon → SameBefore line solution own.key t
    before t early k r kn lt = sym (keys k r kn (omega arith))

    kept_is_own : IsPairHistory line script box own
    unfolding gate_pairs
    kept_is_own = record {
      keys = λ k t kn lt.
          keys k t kn lt
          ∙ laws.values.solution line script box d k t kn lt
          ∙ laws.values.pair line script box solution own.key (key_tree line k) t d lt
          (laws.trees.keys line k kn) (before t lt);
      trips = λ k t kn lt.
          trips k t kn lt
          ∙ laws.values.pair line script box solution own.key (formula_of net.gates (trip_of net k))
          t d lt (gates.names line net.gates (trip_of net k) of_line.named) (before t lt)
          ∙ ap (λ (x : Tree). pair_mean world own.key x t) (of_line.trips k kn);
    }

    pub kept_history : IsTheHistory line script box own
    kept_history = record {
      is = kept_is_own;
      only = λ others also.
          laws.interval_histories.only line script box own others d kept_is_own also;
    }
