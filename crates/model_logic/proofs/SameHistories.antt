-- Histories rest on no declared interval, and interval histories on the intervals of their box.
use Rattle.std.proofs.Common.{◌≡◌, ◌<◌, ℕ, List, sym, ◌∙◌, ap, subst}
use Rattle.model_history.specs.{Laws.HistoryLaws, Rails.both}
use Rattle.model_line.specs.Seen.{is_seen, is_lost}
use Rattle.model_line.specs.{declared.line.Line.Line, SetBounds.SameButParams}
use Rattle.model_line.specs.{declared.line.Channel.Channel, declared.script.Script.Script}
use Rattle.model_line.specs.{Channels.from_of, SameCountLaws.terminals_same}
use Rattle.model_logic.specs.Choice.{Choice, Box, time_by, ends_by, world_of, pair_world_of}
use Rattle.model_logic.specs.Logic.{key_tree, trip_tree}
use Rattle.model_logic.specs.Histories.{History, IsLineHistory, PairHistory, IsPairHistory}
use Rattle.model_logic.specs.Mean.{World, mean}
use Rattle.model_logic.specs.PairMean.{PairWorld, pair_mean}
use Rattle.model_logic.specs.Tree.{Tree}
use Rattle.model_logic.specs.Boxes.{IsSameBox}
use Rattle.model_logic.proofs.LogicNames.{names_key_tree, names_trip_tree}
use Rattle.model_logic.proofs.SameTrees.{key_tree-same, trip_tree-same}
use Rattle.model_logic.proofs.PlainLaws.{pair_mean-world}
use Rattle.model_logic.specs.BoxLaws.{same_world}

module _ (old new : Line) (same : SameButParams old new) (script : Script) where
  world_same : (choice : Choice) → world_of new script choice ≡ world_of old script choice
  unfolding world_of
  world_same choice =
      let made : List Channel → World = λ cs. record {
        seen = is_seen script.spans.items;
        lost = is_lost script.spans.items;
        from = from_of cs;
        delay = choice.delay;
        time = time_by choice.number;
      } in
      ap made same.channels

  pair_world_same : (box : Box) → pair_world_of new script box ≡ pair_world_of old script box
  unfolding pair_world_of
  pair_world_same box =
      let made : List Channel → PairWorld = λ cs. record {
        seen = λ p t. both (is_seen script.spans.items p t);
        lost = λ c t. both (is_lost script.spans.items c t);
        from = from_of cs;
        delay = box.delay;
        time = ends_by box.ends;
      } in
      ap made same.channels

  pub history_same : (choice : Choice) (h : History) → IsLineHistory old script choice h
      → IsLineHistory new script choice h
  history_same choice h is = record {
    keys = λ k t kn lt.
        is.keys k t (subst (λ (n : ℕ). k < n) (terminals_same old new same) kn)
        (subst (λ (n : ℕ). t < n) same.horizon lt)
        ∙ sym (ap (λ (w : World). mean w h.key (key_tree new k) t) (world_same choice)
        ∙ ap (λ (x : Tree). mean (world_of old script choice) h.key x t)
        (key_tree-same old new same k));
    trips = λ k t kn lt.
        is.trips k t (subst (λ (n : ℕ). k < n) (terminals_same old new same) kn)
        (subst (λ (n : ℕ). t < n) same.horizon lt)
        ∙ sym (ap (λ (w : World). mean w h.key (trip_tree new k) t) (world_same choice)
        ∙ ap (λ (x : Tree). mean (world_of old script choice) h.key x t)
        (trip_tree-same old new same k));
  }

  pub pair_history_same : (box : Box) (w : PairHistory) → IsPairHistory old script box w
      → IsPairHistory new script box w
  pair_history_same box w is = record {
    keys = λ k t kn lt.
        is.keys k t (subst (λ (n : ℕ). k < n) (terminals_same old new same) kn)
        (subst (λ (n : ℕ). t < n) same.horizon lt)
        ∙ sym (ap (λ (v : PairWorld). pair_mean v w.key (key_tree new k) t) (pair_world_same box)
        ∙ ap (λ (x : Tree). pair_mean (pair_world_of old script box) w.key x t)
        (key_tree-same old new same k));
    trips = λ k t kn lt.
        is.trips k t (subst (λ (n : ℕ). k < n) (terminals_same old new same) kn)
        (subst (λ (n : ℕ). t < n) same.horizon lt)
        ∙ sym (ap (λ (v : PairWorld). pair_mean v w.key (trip_tree new k) t) (pair_world_same box)
        ∙ ap (λ (x : Tree). pair_mean (pair_world_of old script box) w.key x t)
        (trip_tree-same old new same k));
  }

-- ---- the same box

module _ (laws : HistoryLaws) where
  pub same_box : (line : Line) (script : Script) (a b : Box) (w : PairHistory) → IsSameBox line a b
      → IsPairHistory line script a w → IsPairHistory line script b w
  same_box line script a b w same is = record {
    keys = λ k t kn lt. is.keys k t kn lt
        ∙ pair_mean-world laws line (pair_world_of line script a) (pair_world_of line script b) w.key
        (key_tree line k) t lt (names_key_tree line k kn) (same_world line script a b same);
    trips = λ k t kn lt. is.trips k t kn lt
        ∙ pair_mean-world laws line (pair_world_of line script a) (pair_world_of line script b) w.key
        (trip_tree line k) t lt (names_trip_tree line k kn) (same_world line script a b same);
  }
