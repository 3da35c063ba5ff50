-- One history for each choice, one interval history for each box, and covering between them.
use Rattle.std.proofs.Common.{◌≡◌, ℕ, ◌<◌, Bool, refl, sym, ◌∙◌, ap, arith}
use Rattle.model_history.specs.{Laws.HistoryLaws, Rails.both, Rails.must_of}
use Rattle.model_line.specs.{declared.line.Line.Line, declared.script.Script.Script}
use Rattle.model_line.specs.Parameters.{terminal_count}
use Rattle.model_logic.specs.Mean.{World, Signals, mean}
use Rattle.model_logic.specs.PairMean.{PairWorld, PairSignals, pair_mean, singles}
use Rattle.model_logic.specs.Choice.{Choice, Box, DelaysFromOne, LeastFromOne, point_box, world_of}
use Rattle.model_logic.specs.Choice.{pair_world_of}
use Rattle.model_logic.specs.Histories.{History, IsLineHistory, IsSameHistory, PairHistory}
use Rattle.model_logic.specs.Histories.{IsPairHistory, IsSamePairHistory, IsBothRails, must_history}
use Rattle.model_logic.specs.Solution.{IsDelayed, the_keys}
use Rattle.model_logic.specs.Names.{Names, AllNamed}
use Rattle.model_logic.specs.Logic.{key_tree, trip_tree}
use Rattle.model_logic.specs.Tree.{Tree}
use Rattle.model_logic.proofs.LogicNames.{names_key_tree, names_trip_tree}
use Rattle.model_logic.proofs.PairLaws.{pair_mean-past, solution_once, the_keys-solve}
use Rattle.model_logic.proofs.PlainLaws.{lifted, plain_of, pair_mean-single, pair_mean-world}
use Rattle.model_logic.proofs.PlainLaws.{mean-past, plain_once, plain_exists}
use Rattle.model_logic.proofs.WorldLaws.{world_delayed, point_world}
use Rattle.model_logic.specs.BoxLaws.{pair_world_delayed}

pub keys_named : (line : Line) → AllNamed line (key_tree line)
keys_named line k lt = names_key_tree line k lt

module _ (laws : HistoryLaws) where
  module _ (line : Line) (script : Script) (choice : Choice) (d : DelaysFromOne line choice) where
    abbrev at_choice : World
    at_choice = world_of line script choice

    at_choice_delayed : IsDelayed line (singles at_choice)
    at_choice_delayed = world_delayed line script choice d

    pub history_exists : (h : History) × IsLineHistory line script choice h
    history_exists =
        let keys : Signals = plain_of (the_keys (singles at_choice) (key_tree line)) in (
          record { key = keys; trip = λ k t. mean at_choice keys (trip_tree line k) t },
          record {
            keys = plain_exists laws line at_choice at_choice_delayed (key_tree line) (keys_named line);
            trips = λ k t kn lt. refl;
          },
        )

    pub history_once : (g h : History) → IsLineHistory line script choice g
        → IsLineHistory line script choice h → IsSameHistory line g h
    history_once g h is_g is_h =
        let keys : (k t : ℕ) → k < terminal_count line → t < line.horizon → g.key k t ≡ h.key k t =
        plain_once laws line at_choice at_choice_delayed (key_tree line) (keys_named line) g.key h.key
        is_g.keys
        is_h.keys in
        record {
          keys = keys;
          trips = λ k t kn lt.
              is_g.trips k t kn lt
              ∙ mean-past laws line at_choice at_choice_delayed g.key h.key (trip_tree line k) t lt
              (names_trip_tree line k kn) (λ j r jn before. keys j r jn (omega arith))
              ∙ sym (is_h.trips k t kn lt);
        }

  module _ (line : Line) (script : Script) (box : Box) (d : LeastFromOne line box) where
    abbrev over_box : PairWorld
    over_box = pair_world_of line script box

    over_box_delayed : IsDelayed line over_box
    over_box_delayed = pair_world_delayed line script box d

    pub pair_history_exists : (h : PairHistory) × IsPairHistory line script box h
    pair_history_exists =
        let keys : PairSignals = the_keys over_box (key_tree line) in (
          record { key = keys; trip = λ k t. pair_mean over_box keys (trip_tree line k) t },
          record {
            keys = the_keys-solve laws line over_box over_box_delayed (key_tree line) (keys_named line);
            trips = λ k t kn lt. refl;
          },
        )

    pub pair_history_once : (g h : PairHistory) → IsPairHistory line script box g
        → IsPairHistory line script box h → IsSamePairHistory line g h
    pair_history_once g h is_g is_h =
        let keys : (k t : ℕ) → k < terminal_count line → t < line.horizon → g.key k t ≡ h.key k t =
        solution_once laws line over_box over_box_delayed (key_tree line) g.key h.key (keys_named line)
        is_g.keys
        is_h.keys line.horizon (omega arith) in
        record {
          keys = keys;
          trips = λ k t kn lt.
              is_g.trips k t kn lt
              ∙ pair_mean-past laws line over_box over_box_delayed g.key h.key (trip_tree line k) t lt
              (names_trip_tree line k kn) (λ j r jn before. keys j r jn (omega arith))
              ∙ sym (is_h.trips k t kn lt);
        }

  -- ---- the box of one choice

  module _ (line : Line) (script : Script) (choice : Choice) where
    -- over the choice's own box the pair of a tree over plain keys is its value, on both rails
    pub point_mean : (keys : Signals) (x : Tree) (t : ℕ) → t < line.horizon → Names line x
        → pair_mean (pair_world_of line script (point_box choice)) (lifted keys) x t
        ≡ both (mean (world_of line script choice) keys x t)
    point_mean keys x t lt named =
        pair_mean-world laws line (pair_world_of line script (point_box choice))
        (singles (world_of line script choice)) (lifted keys) x t lt named
        (point_world line script choice)
        ∙ pair_mean-single laws (world_of line script choice) keys x t

    -- a history is, on both rails, an interval history over its choice's box
    pub point_history : (h : History) → IsLineHistory line script choice h
        → IsPairHistory line script (point_box choice)
        (record { key = lifted h.key; trip = lifted h.trip })
    point_history h is = record {
      keys = λ k t kn lt. ap (λ (b : Bool). both b) (is.keys k t kn lt)
          ∙ sym (point_mean h.key (key_tree line k) t lt (names_key_tree line k kn));
      trips = λ k t kn lt. ap (λ (b : Bool). both b) (is.trips k t kn lt)
          ∙ sym (point_mean h.key (trip_tree line k) t lt (names_trip_tree line k kn));
    }

    pub both_rails : DelaysFromOne line choice → (w : PairHistory) (h : History)
        → IsPairHistory line script (point_box choice) w → IsLineHistory line script choice h
        → IsBothRails line w h
    both_rails d w h is_w is_h =
        let same : IsSamePairHistory line w (record { key = lifted h.key; trip = lifted h.trip }) =
        pair_history_once line script (point_box choice) d w
        (record { key = lifted h.key; trip = lifted h.trip }) is_w (point_history h is_h) in
        record { keys = same.keys; trips = same.trips }

    -- the must rails of an interval history over the choice's box are a history
    pub must_rails : DelaysFromOne line choice → (w : PairHistory)
        → IsPairHistory line script (point_box choice) w
        → IsLineHistory line script choice (must_history w)
    must_rails d w is_w =
        let (h, is_h) = history_exists line script choice d in
        let same : IsBothRails line w h = both_rails d w h is_w is_h in
        let keys : (k t : ℕ) → k < terminal_count line → t < line.horizon
        → (must_history w).key k t ≡ h.key k t =
        λ k t kn lt. ap must_of (same.keys k t kn lt) in
        let trips : (k t : ℕ) → k < terminal_count line → t < line.horizon
        → (must_history w).trip k t ≡ h.trip k t =
        λ k t kn lt. ap must_of (same.trips k t kn lt) in
        let past : (x : Tree) (t : ℕ) → t < line.horizon → Names line x
        → mean (world_of line script choice) h.key x t
        ≡ mean (world_of line script choice) (must_history w).key x t =
        λ x t lt named.
        mean-past laws line (world_of line script choice) (world_delayed line script choice d) h.key
        (must_history w).key x t lt named
        (λ k r kn before. sym (keys k r kn (omega arith))) in
        record {
          keys = λ k t kn lt.
              keys k t kn lt ∙ is_h.keys k t kn lt
              ∙ past (key_tree line k) t lt (names_key_tree line k kn);
          trips = λ k t kn lt.
              trips k t kn lt ∙ is_h.trips k t kn lt
              ∙ past (trip_tree line k) t lt (names_trip_tree line k kn);
        }
