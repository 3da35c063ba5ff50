-- The interval history over two scripts covers each fine history under what is shown between them.
use Rattle.std.proofs.Common.{◌≡◌, ◌*◌, ◌/◌, ◌<◌, ◌≤◌, ℕ, zero, suc, Bool, sym, subst}
use Rattle.std.proofs.Common.{arith, ⊎_elim}
use Rattle.std.proofs.lemmas.Bool.{cases_lt}
use Rattle.model_history.specs.{Laws.HistoryLaws, Elements.delayed}
use Rattle.model_history.specs.Rails.{Rails, Ends, both, Covers, RailsCover}
use Rattle.model_line.specs.{declared.line.Line.Line, declared.script.Script.Script}
use Rattle.model_line.specs.Parameters.{terminal_count}
use Rattle.model_logic.specs.Tree.{Tree, Const, Seen, Loss, Raw, Not, And, Or, Timer, Seal}
use Rattle.model_logic.specs.declared.time.Time.{Time}
use Rattle.model_logic.specs.declared.time.Time.TheVariants.{Zero, Param}
use Rattle.model_logic.specs.Mean.{Signals, mean}
use Rattle.model_logic.specs.PairMean.{PairSignals, pair_mean}
use Rattle.model_logic.specs.Choice.{Choice, Box, IsIn, LeastFromOne, time_by, ends_by}
use Rattle.model_logic.specs.Covering.{CoverOwn}
use Rattle.model_logic.specs.Histories.{History, PairHistory}
use Rattle.model_logic.specs.Logic.{key_tree, trip_tree}
use Rattle.model_logic.specs.{Laws.TreesNameTheLine, Names.Names, Names.HasTime}
use Rattle.model_fine.specs.Cut.{cut, cut_ends}
use Rattle.model_fine.specs.Fine.{IsFineWithin, CoversFineHistory}
use Rattle.model_fine.specs.Loose.{Shown, IsBetween, IsLooseHistory, IsShownHistory}
use Rattle.model_fine.specs.Loose.{loose_world_of, shown_world_of}
use Rattle.model_fine.proofs.Floors.{before, times}
use Rattle.model_fine.proofs.CutRails.{rails_timed-cut, rails_sealed-cut, rails_delayed-cut}

covers_itself : (v : Bool) → Covers (both v) v
covers_itself v = record { must = λ h. h; may = λ h. h }

module _ (laws : HistoryLaws) (n : ℕ) (some : 1 ≤ n) (line : Line) (certain perhaps : Script)
    (box : Box) (shown : Shown) (choice : Choice) (d : LeastFromOne line box)
    (between : IsBetween n line certain perhaps box shown)
    (within : IsFineWithin n line choice box) where
  time_within : (x : Time) → HasTime line x
      → IsIn (time_by choice.number x) (cut_ends n (ends_by box.ends x))
  time_within Zero has = record { least = omega arith; greatest = omega arith }
  time_within (Param i) has = within.numbers i has

  module _ (keys : PairSignals) (plain : Signals) where
    -- the keys cover at each fine tick before t
    abbrev CoverBefore : ℕ → Type 0
    CoverBefore t =
        (k r : ℕ) → k < terminal_count line → r < t → Covers (keys k (r / n)) (plain k r)

    cover_earlier : (r t : ℕ) → r ≤ t → CoverBefore t → CoverBefore r
    cover_earlier r t le cover k s kn lt = cover k s kn (omega arith)

    -- then the pair of a tree, in whole ticks, covers its value
    pub tree_covers : (x : Tree) (t : ℕ) → t < line.horizon * n → Names line x → CoverBefore t
        → Covers (pair_mean (loose_world_of line certain perhaps box) keys x (t / n))
        (mean (shown_world_of line shown choice) plain x t)
    unfolding pair_mean mean Names loose_world_of shown_world_of
    tree_covers (Const v) t early h cover = covers_itself v
    tree_covers (Seen p) t early h cover = between.seen p t
    tree_covers (Loss c) t early h cover = between.lost c t
    tree_covers (Raw c) t early h cover =
        let from : ℕ = (shown_world_of line shown choice).from c in
        let span : Ends = box.delay c (t / n) in
        let lies = within.delays c t h early in
        let one : 1 ≤ span.least = d c (t / n) h (before n some line.horizon t early) in
        let fine : 1 * n ≤ span.least * n = times n some 1 span.least one in
        let least : span.least * n ≤ choice.delay c t = lies.least in
        subst (λ (x : Rails). Covers x (delayed (plain from) (choice.delay c t) t))
        (rails_delayed-cut n some laws (keys from) span t)
        (laws.delays_cover.values (cut n (keys from)) (plain from) (λ s. cut_ends n span)
        (choice.delay c) t (omega (arith, some, fine, least))
        (λ r lt. cover from r (line.pairs_once.from c h) lt) lies.least lies.greatest)
    tree_covers (Not x) t early h cover =
        laws.cover_values.not _ _ (tree_covers x t early h cover)
    tree_covers (And x y) t early h cover =
        laws.cover_values.and _ _ _ _ (tree_covers x t early h.0 cover)
        (tree_covers y t early h.1 cover)
    tree_covers (Or x y) t early h cover =
        laws.cover_values.or _ _ _ _ (tree_covers x t early h.0 cover)
        (tree_covers y t early h.1 cover)
    tree_covers (Timer x p e) t early h cover =
        let pairs : ℕ → Rails = pair_mean (loose_world_of line certain perhaps box) keys x in
        let in_p = time_within p h.1.0 in
        let in_e = time_within e h.1.1 in
        subst (λ (y : Rails). Covers y (mean (shown_world_of line shown choice) plain (Timer x p e) t))
        (rails_timed-cut n some laws pairs (ends_by box.ends p) (ends_by box.ends e) t)
        (laws.cover_values.timed (cut n pairs) (mean (shown_world_of line shown choice) plain x)
        (cut_ends n (ends_by box.ends p)) (cut_ends n (ends_by box.ends e)) (time_by choice.number p)
        (time_by choice.number e) t
        (λ r le. tree_covers x r (omega arith) h.0 (cover_earlier r t le cover)) in_p.least
        in_p.greatest in_e.least in_e.greatest)
    tree_covers (Seal x y) t early h cover =
        let sets : ℕ → Rails = pair_mean (loose_world_of line certain perhaps box) keys x in
        let keeps : ℕ → Rails = pair_mean (loose_world_of line certain perhaps box) keys y in
        subst (λ (z : Rails). Covers z (mean (shown_world_of line shown choice) plain (Seal x y) t))
        (rails_sealed-cut n some laws sets keeps t)
        (laws.cover_values.sealed (cut n sets) (cut n keeps)
        (mean (shown_world_of line shown choice) plain x)
        (mean (shown_world_of line shown choice) plain y) t
        (λ r le. tree_covers x r (omega arith) h.0 (cover_earlier r t le cover))
        (λ r le. tree_covers y r (omega arith) h.1 (cover_earlier r t le cover)))

  module _ (names : TreesNameTheLine) (h : History)
      (is_h : IsShownHistory n line shown choice h) where
    -- keys that cover, at each tick, the pairs that their trees have over the keys themselves cover
    -- those of the history, fine tick by fine tick
    keys_cover : (keys : PairSignals) → CoverOwn line (loose_world_of line certain perhaps box) (key_tree line) keys → (t : ℕ)
        → t ≤ line.horizon * n → (k r : ℕ) → k < terminal_count line → r < t
        → Covers (keys k (r / n)) (h.key k r)
    keys_cover keys own zero le k r kn lt = absurd (omega arith)
    keys_cover keys own (suc t) le k r kn lt =
        ⊎_elim (λ earlier. keys_cover keys own t (omega arith) k r kn earlier)
        (λ last. let e : t ≡ r = omega arith in
        let early : t < line.horizon * n = omega arith in
        let now : Covers (pair_mean (loose_world_of line certain perhaps box) keys (key_tree line k) (t / n))
        (mean (shown_world_of line shown choice) h.key (key_tree line k) t) =
        tree_covers keys h.key (key_tree line k) t early (names.keys line k kn)
        (keys_cover keys own t (omega arith)) in
        let all : Covers (keys k (t / n))
        (mean (shown_world_of line shown choice) h.key (key_tree line k) t) =
        laws.covering.value (keys k (t / n))
        (pair_mean (loose_world_of line certain perhaps box) keys (key_tree line k) (t / n))
        (mean (shown_world_of line shown choice) h.key (key_tree line k) t)
        (own k (t / n) kn (before n some line.horizon t early)) now in
        subst (λ (s : ℕ). Covers (keys k (s / n)) (h.key k s)) e
        (subst (λ (v : Bool). Covers (keys k (t / n)) v) (sym (is_h.keys k t kn early)) all))
        (cases_lt r t)

    module _ (w : PairHistory) (is_w : IsLooseHistory line certain perhaps box w) where
      -- the keys of the interval history are what is derived from them
      own_keys : CoverOwn line (loose_world_of line certain perhaps box) (key_tree line) w.key
      own_keys k t kn lt =
          subst (λ (x : Rails). RailsCover x
          (pair_mean (loose_world_of line certain perhaps box) w.key (key_tree line k) t))
          (sym (is_w.keys k t kn lt))
          (laws.covering.itself
          (pair_mean (loose_world_of line certain perhaps box) w.key (key_tree line k) t))

      pub shown_covered : CoversFineHistory n line w h
      shown_covered = record {
        keys = keys_cover w.key own_keys (line.horizon * n) (omega arith);
        trips = λ k t kn lt.
            subst (λ (v : Bool). Covers (w.trip k (t / n)) v) (sym (is_h.trips k t kn lt))
            (laws.covering.value (w.trip k (t / n))
            (pair_mean (loose_world_of line certain perhaps box) w.key (trip_tree line k) (t / n))
            (mean (shown_world_of line shown choice) h.key (trip_tree line k) t)
            (subst (λ (x : Rails). RailsCover x
            (pair_mean (loose_world_of line certain perhaps box) w.key (trip_tree line k) (t / n)))
            (sym (is_w.trips k (t / n) kn (before n some line.horizon t lt)))
            (laws.covering.itself
            (pair_mean (loose_world_of line certain perhaps box) w.key (trip_tree line k) (t / n))))
            (tree_covers w.key h.key (trip_tree line k) t lt (names.trips line k kn)
            (λ j r jn before_t. keys_cover w.key own_keys t (omega arith) j r jn before_t)));
      }
