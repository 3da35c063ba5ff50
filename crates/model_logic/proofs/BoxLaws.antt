-- A wider box covers a narrower one and each choice in it, and so do claims that are covered.
use Rattle.std.proofs.Common.{ℕ, Bool, ◌<◌, refl, sym, subst, arith}
use Rattle.model_history.specs.Laws.{HistoryLaws}
use Rattle.model_history.specs.Rails.{Rails, Ends, Covers, RailsCover, IsPartOf}
use Rattle.model_history.specs.RailLaws.{covers_same}
use Rattle.model_logic.specs.declared.time.Time.TheVariants.{Zero, Param}
use Rattle.model_logic.specs.PairMean.{PairWorld, PairSignals, pair_mean}
use Rattle.model_logic.specs.Choice.{Choice, Box, IsIn, IsWithin, IsBoxWithin, LeastFromOne}
use Rattle.model_logic.specs.Choice.{point_box, ends_by, world_of, pair_world_of}
use Rattle.model_logic.specs.Histories.{History, IsLineHistory, PairHistory, IsPairHistory}
use Rattle.model_logic.specs.Histories.{CoversHistory, CoversPairHistory, AreCovered}
use Rattle.model_logic.specs.Histories.{with_derived_trips}
use Rattle.model_logic.specs.Names.{HasTime, Names}
use Rattle.model_logic.specs.Logic.{key_tree, trip_tree}
use Rattle.model_logic.specs.Covering.{IsWider, CoverBefore}
use Rattle.model_logic.specs.{declared.time.Time.Time, Tree.Tree, Mean.mean, Solution.IsDelayed}
use Rattle.model_line.specs.{declared.line.Line.Line, declared.script.Script.Script}
use Rattle.model_line.specs.{Parameters.param_count, Seen.is_seen, Seen.is_lost}
use Rattle.model_logic.proofs.CoverLaws.{pair_mean-wider, claims_wider, solution_wider}
use Rattle.model_logic.proofs.HistoryLaws.{keys_named, point_mean, point_history}
use Rattle.model_logic.proofs.LogicNames.{names_trip_tree}
use Rattle.model_logic.proofs.PlainLaws.{lifted}
use Rattle.model_logic.specs.BoxLaws.{pair_world_delayed}

-- intervals by number are part of one another where those of the parameters are
time_part : (line : Line) (inner outer : ℕ → Ends)
    → ((i : ℕ) → i < param_count line → IsPartOf (inner i) (outer i))
    → (x : Time) → HasTime line x → IsPartOf (ends_by inner x) (ends_by outer x)
time_part line inner outer part Zero has = record { least = omega arith; greatest = omega arith }
time_part line inner outer part (Param i) has = part i has

pub wider_world : (line : Line) (script : Script) (inner outer : Box)
    → IsBoxWithin line inner outer
    → IsWider line (pair_world_of line script outer) (pair_world_of line script inner)
unfolding pair_world_of
wider_world line script inner outer within = record {
  seen = λ p t.
      let on : Bool = is_seen script.spans.items p t in covers_same on on refl;
  lost = λ c t.
      let on : Bool = is_lost script.spans.items c t in covers_same on on refl;
  from = λ c. refl;
  delay = within.delays;
  time = time_part line inner.ends outer.ends within.numbers;
}

-- the box of a choice lies within each box that the choice lies in
pub point_within : (line : Line) (choice : Choice) (box : Box) → IsWithin line choice box
    → IsBoxWithin line (point_box choice) box
point_within line choice box within = record {
  numbers = λ i lt.
      let h : IsIn (choice.number i) (box.ends i) = within.numbers i lt in
      record { least = h.least; greatest = h.greatest };
  delays = λ c t lt early.
      let h : IsIn (choice.delay c t) (box.delay c t) = within.delays c t lt early in
      record { least = h.least; greatest = h.greatest };
}

module _ (laws : HistoryLaws) where
  module _ (line : Line) (script : Script) (outer : Box) (d : LeastFromOne line outer) where
    abbrev over_outer : PairWorld
    over_outer = pair_world_of line script outer

    over_outer_delayed : IsDelayed line over_outer
    over_outer_delayed = pair_world_delayed line script outer d

    -- claims that are covered cover each interval history of a narrower box, trips included
    pub claims_cover_pairs : (inner : Box) → IsBoxWithin line inner outer → (claims : PairSignals)
        → AreCovered line script outer claims → (v : PairHistory) → IsPairHistory line script inner v
        → CoversPairHistory line (with_derived_trips line script outer claims) v
    claims_cover_pairs inner within claims covered v is_v =
        let wider : IsWider line over_outer (pair_world_of line script inner) =
        wider_world line script inner outer within in
        let keys : CoverBefore line claims v.key line.horizon =
        claims_wider laws line over_outer (pair_world_of line script inner) wider over_outer_delayed
        (key_tree line) claims
        v.key (keys_named line) covered is_v.keys line.horizon (omega arith) in
        record {
          keys = keys;
          trips = λ k t kn lt.
              subst (λ (x : Rails). RailsCover (pair_mean over_outer claims (trip_tree line k) t) x)
              (sym (is_v.trips k t kn lt))
              (pair_mean-wider laws line over_outer (pair_world_of line script inner) wider
              over_outer_delayed claims v.key
              (trip_tree line k) t lt (names_trip_tree line k kn)
              (λ j r jn before. keys j r jn (omega arith)));
        }

    -- the interval history over the outer box covers that over the inner one
    pub box_covers : (inner : Box) → IsBoxWithin line inner outer → (w v : PairHistory)
        → IsPairHistory line script outer w → IsPairHistory line script inner v
        → CoversPairHistory line w v
    box_covers inner within w v is_w is_v =
        let wider : IsWider line over_outer (pair_world_of line script inner) =
        wider_world line script inner outer within in
        let keys : CoverBefore line w.key v.key line.horizon =
        solution_wider laws line over_outer (pair_world_of line script inner) wider over_outer_delayed
        (key_tree line)
        w.key v.key (keys_named line) is_w.keys is_v.keys line.horizon (omega arith) in
        record {
          keys = keys;
          trips = λ k t kn lt.
              subst (λ (x : Rails). RailsCover x (v.trip k t)) (sym (is_w.trips k t kn lt))
              (subst (λ (x : Rails). RailsCover (pair_mean over_outer w.key (trip_tree line k) t) x)
              (sym (is_v.trips k t kn lt))
              (pair_mean-wider laws line over_outer (pair_world_of line script inner) wider
              over_outer_delayed w.key v.key
              (trip_tree line k) t lt (names_trip_tree line k kn)
              (λ j r jn before. keys j r jn (omega arith))));
        }

    module _ (choice : Choice) (within : IsWithin line choice outer) (h : History)
        (is_h : IsLineHistory line script choice h) where
      -- claims that are covered cover the history of each choice within
      pub claims_cover : (claims : PairSignals) → AreCovered line script outer claims
          → CoversHistory line (with_derived_trips line script outer claims) h
      claims_cover claims covered =
          let pairs : CoversPairHistory line (with_derived_trips line script outer claims)
          (record { key = lifted h.key; trip = lifted h.trip }) =
          claims_cover_pairs (point_box choice) (point_within line choice outer within) claims
          covered (record { key = lifted h.key; trip = lifted h.trip })
          (point_history laws line script choice h is_h) in
          record {
            keys = λ k t kn lt. (laws.covering.exact (claims k t) (h.key k t)).0 (pairs.keys k t kn lt);
            trips = λ k t kn lt.
                (laws.covering.exact (pair_mean over_outer claims (trip_tree line k) t) (h.trip k t)).0
                (pairs.trips k t kn lt);
          }

      -- the interval history covers the history of each choice within
      pub box_covers_choice : (w : PairHistory) → IsPairHistory line script outer w
          → CoversHistory line w h
      box_covers_choice w is_w =
          let pairs : CoversPairHistory line w
          (record { key = lifted h.key; trip = lifted h.trip }) =
          box_covers (point_box choice) (point_within line choice outer within) w
          (record { key = lifted h.key; trip = lifted h.trip }) is_w
          (point_history laws line script choice h is_h) in
          record {
            keys = λ k t kn lt. (laws.covering.exact (w.key k t) (h.key k t)).0 (pairs.keys k t kn lt);
            trips = λ k t kn lt. (laws.covering.exact (w.trip k t) (h.trip k t)).0 (pairs.trips k t kn lt);
          }

      -- and over it the pair of each tree covers the tree's value
      pub box_covers_tree : (w : PairHistory) → IsPairHistory line script outer w
          → (x : Tree) (t : ℕ) → t < line.horizon → Names line x
          → Covers (pair_mean over_outer w.key x t) (mean (world_of line script choice) h.key x t)
      box_covers_tree w is_w x t lt named =
          let cover : CoversHistory line w h = box_covers_choice w is_w in
          (laws.covering.exact (pair_mean over_outer w.key x t) (mean (world_of line script choice) h.key x t)).0
          (subst (λ (y : Rails). RailsCover (pair_mean over_outer w.key x t) y)
          (point_mean laws line script choice h.key x t lt named)
          (pair_mean-wider laws line over_outer (pair_world_of line script (point_box choice))
          (wider_world line script (point_box choice) outer
          (point_within line choice outer within))
          over_outer_delayed w.key (lifted h.key) x t lt named
          (λ k r kn before. let early : r < line.horizon = omega arith in
          let c : Covers (w.key k r) (h.key k r) = cover.keys k r kn early in
          record { must = c.must; may = c.may })))
