-- The interval history of a line over a box that holds one choice alone, and what a run tells of it.
use Rattle.std.proofs.Common.{◌≡◌, ℕ, ◌<◌, ◌≤◌, Bool, refl, sym, ◌∙◌, ap, arith}
use Rattle.model_history.specs.Rails.{both}
use Rattle.model_line.specs.{declared.script.Script.Script, declared.line.Line.Line}
use Rattle.model_line.specs.Parameters.{terminal_count}
use Rattle.model_logic.specs.Choice.{Box, Choice, LeastFromOne, pair_world_of}
use Rattle.model_logic.specs.Histories.{PairHistory, IsSameHistory, must_history}
use Rattle.model_logic.specs.{Laws.LineLaws, Logic.key_tree, Solution.the_keys}
use Rattle.net_gates.specs.{NetLaws.GatesStandForTheirTrees, NetOf.NetOf, NetOf.IsNetOf}
use Rattle.run_step.specs.Runs.{IsPoint, IsExactAt}
use Rattle.run_step.specs.GatePairs.{line_pairs}
use Rattle.run_changes.specs.{changes.Tracks.trips_of, changes.Until.AreExactBelow}
use Rattle.run_step.specs.PointLaws.{exact_at, delays_from_one}
use Rattle.run_changes.proofs.changes_lemmas.TrackLaws.{kept_history}

-- the keys that solve the equations, and the trips that follow from them
abbrev pub solved_history : Line → Script → Box → NetOf → PairHistory
solved_history line script box net = record {
  key = the_keys (pair_world_of line script box) (key_tree line);
  trip = trips_of net (line_pairs line script box net);
}

module _ (laws : LineLaws) (gates : GatesStandForTheirTrees) (line : Line) (script : Script)
    (box : Box) (d : LeastFromOne line box) (net : NetOf) (of_line : IsNetOf line net)
    (choice : Choice) (point : IsPoint line box choice) where
  abbrev own : PairHistory
  own = solved_history line script box net

  pub solved_exact : IsExactAt line script choice own
  solved_exact =
      exact_at laws line script box d choice point own
      (kept_history laws gates line script box d net of_line own (λ k t kn lt. refl)
      (λ k t kn lt. refl)).is

  -- what is as they are below a tick is there each history at the choice
  pub exact_below : (until : ℕ) (w : PairHistory) → until ≤ line.horizon
      → ((k t : ℕ) → k < terminal_count line → t < until → w.key k t ≡ own.key k t)
      → ((k t : ℕ) → k < terminal_count line → t < until → w.trip k t ≡ own.trip k t)
      → AreExactBelow line script choice until w
  exact_below until w inside keys trips h is_h =
      let once : IsSameHistory line h (must_history own) =
      laws.histories.only line script choice h (must_history own)
      (delays_from_one laws line script box d choice point) is_h solved_exact.is in
      record {
        keys = λ k t kn lt.
            let early : t < line.horizon = omega (arith, lt, inside) in
            keys k t kn lt ∙ solved_exact.both.keys k t kn early
            ∙ ap (λ (b : Bool). both b) (sym (once.keys k t kn early));
        trips = λ k t kn lt.
            let early : t < line.horizon = omega (arith, lt, inside) in
            trips k t kn lt ∙ solved_exact.both.trips k t kn early
            ∙ ap (λ (b : Bool). both b) (sym (once.trips k t kn early));
      }
