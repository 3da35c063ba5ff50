-- The interval history under what is assumed of spans covers each fine history that agrees.
use Rattle.std.proofs.Common.{◌≡◌, ◌*◌, ◌/◌, ◌<◌, ◌≤◌, ℕ, zero, suc, Bool, sym, subst, refl, ◌∙◌}
use Rattle.std.proofs.Common.{arith, ap, ⊎_elim}
use Rattle.std.proofs.lemmas.Bool.{cases_lt}
use Rattle.std.specs.Prelude.{Option, None, Some, List}
use Rattle.model_history.specs.{Laws.HistoryLaws, Elements.delayed}
use Rattle.model_history.specs.Rails.{Rails, Ends, Covers}
use Rattle.model_line.specs.{declared.line.Line.Line, declared.script.Script.Script}
use Rattle.model_line.specs.Parameters.{terminal_count}
use Rattle.model_logic.specs.Tree.{Tree, Const, Seen, Loss, Raw, Not, And, Or, Timer, Seal}
use Rattle.model_logic.specs.declared.time.Time.{Time}
use Rattle.model_logic.specs.Mean.{Signals, mean}
use Rattle.model_logic.specs.PairMean.{PairSignals}
use Rattle.model_logic.specs.Choice.{Choice, Box, LeastFromOne, time_by, ends_by, pair_world_of}
use Rattle.model_logic.specs.Histories.{History, PairHistory}
use Rattle.model_logic.specs.Logic.{key_tree, trip_tree}
use Rattle.model_logic.specs.{Laws.TreesNameTheLine, Names.Names, Names.HasTime}
use Rattle.model_settle.specs.Assumed.{Assumption, HaveSpans, assumed_level}
use Rattle.model_settle.specs.Under.{assumed_or, pair_under, own_pair, IsPairHistoryUnder}
use Rattle.model_fine.specs.Cut.{cut, cut_ends}
use Rattle.model_fine.specs.Fine.{IsFineWithin, IsFineHistory, CoversFineHistory, fine_world_of}
use Rattle.model_fine.specs.Spans.{AgreesWithAll}
use Rattle.model_fine.proofs.Floors.{before, times}
use Rattle.model_fine.proofs.CutRails.{rails_timed-cut, rails_sealed-cut, rails_delayed-cut}
use Rattle.model_fine.proofs.FineCovers.{covers_itself}
use Rattle.model_fine.proofs.SpanLevels.{levels_of, time_in}

covers_or : (level : Option Bool) (own : Rails) (v : Bool) → ((a : Bool) → level ≡ Some a → v ≡ a)
    → Covers own v → Covers (assumed_or level own) v
covers_or None own v agree cover = cover
covers_or (Some a) own v agree cover =
    let e : v ≡ a = agree a refl in
    record { must = λ h. e ∙ h; may = λ h. sym e ∙ h }

-- under levels that the trees have, cut
module _ (laws : HistoryLaws) (n : ℕ) (some : 1 ≤ n) (line : Line) (script : Script) (box : Box)
    (choice : Choice) (d : LeastFromOne line box) (within : IsFineWithin n line choice box)
    (level : Tree → ℕ → Option Bool) (keys : PairSignals) (plain : Signals)
    (agree : (x : Tree) (t : ℕ) (v : Bool) → level x (t / n) ≡ Some v
    → mean (fine_world_of n line script choice) plain x t ≡ v) where
  abbrev pair : Tree → ℕ → Rails
  pair = pair_under level (pair_world_of line script box) keys

  abbrev own : Tree → ℕ → Rails
  own = own_pair level (pair_world_of line script box) keys

  abbrev value : Tree → ℕ → Bool
  value = mean (fine_world_of n line script choice) plain

  -- the keys cover at each fine tick before t
  abbrev CoverBefore : ℕ → Type 0
  CoverBefore t = (k r : ℕ) → k < terminal_count line → r < t → Covers (keys k (r / n)) (plain k r)

  cover_earlier : (r t : ℕ) → r ≤ t → CoverBefore t → CoverBefore r
  cover_earlier r t le cover k s kn lt = cover k s kn (omega arith)

  timed_covers : (x : Tree) (p e : Time) (t : ℕ) → HasTime line p → HasTime line e
      → ((r : ℕ) → r ≤ t → Covers (pair x (r / n)) (value x r))
      → Covers (own (Timer x p e) (t / n)) (value (Timer x p e) t)
  unfolding own_pair mean pair_world_of fine_world_of
  timed_covers x p e t has_p has_e below =
      let in_p = time_in n line choice box within p has_p in
      let in_e = time_in n line choice box within e has_e in
      subst (λ (y : Rails). Covers y (value (Timer x p e) t))
      (rails_timed-cut n some laws (pair x) (ends_by box.ends p) (ends_by box.ends e) t)
      (laws.cover_values.timed (cut n (pair x)) (value x) (cut_ends n (ends_by box.ends p))
      (cut_ends n (ends_by box.ends e)) (time_by choice.number p) (time_by choice.number e) t below
      in_p.least in_p.greatest in_e.least in_e.greatest)

  -- then the pair of a tree, in whole ticks, covers its value
  pub tree_covers : (x : Tree) (t : ℕ) → t < line.horizon * n → Names line x → CoverBefore t
      → Covers (pair x (t / n)) (value x t)
  unfolding pair_under own_pair mean Names pair_world_of fine_world_of
  tree_covers (Const v) t early h cover = covers_itself v
  tree_covers (Seen p) t early h cover = covers_itself _
  tree_covers (Loss c) t early h cover = covers_itself _
  tree_covers (Raw c) t early h cover =
      let from : ℕ = (fine_world_of n line script choice).from c in
      let span : Ends = box.delay c (t / n) in
      let lies = within.delays c t h early in
      let one : 1 ≤ span.least = d c (t / n) h (before n some line.horizon t early) in
      let fine : 1 * n ≤ span.least * n = times n some 1 span.least one in
      let least : span.least * n ≤ choice.delay c t = lies.least in
      subst (λ (x : Rails). Covers x (delayed (plain from) (choice.delay c t) t))
      (rails_delayed-cut n some laws (keys from) span t)
      (laws.delays_cover.values (cut n (keys from)) (plain from) (λ s. cut_ends n span)
      (choice.delay c) t (omega (arith, some, fine, least))
      (λ r lt. cover from r (line.pairs_once.from c h) lt) lies.least lies.greatest)
  tree_covers (Not x) t early h cover =
      laws.cover_values.not _ _ (tree_covers x t early h cover)
  tree_covers (And x y) t early h cover =
      laws.cover_values.and _ _ _ _ (tree_covers x t early h.0 cover)
      (tree_covers y t early h.1 cover)
  tree_covers (Or x y) t early h cover =
      laws.cover_values.or _ _ _ _ (tree_covers x t early h.0 cover)
      (tree_covers y t early h.1 cover)
  tree_covers (Timer x p e) t early h cover =
      covers_or (level (Timer x p e) (t / n)) (own (Timer x p e) (t / n)) (value (Timer x p e) t)
      (agree (Timer x p e) t)
      (timed_covers x p e t h.1.0 h.1.1
      (λ r le. tree_covers x r (omega arith) h.0 (cover_earlier r t le cover)))
  tree_covers (Seal x y) t early h cover =
      subst (λ (z : Rails). Covers z (value (Seal x y) t))
      (rails_sealed-cut n some laws (pair x) (pair y) t)
      (laws.cover_values.sealed (cut n (pair x)) (cut n (pair y)) (value x) (value y) t
      (λ r le. tree_covers x r (omega arith) h.0 (cover_earlier r t le cover))
      (λ r le. tree_covers y r (omega arith) h.1 (cover_earlier r t le cover)))

  pub own_covers : (x : Tree) (t : ℕ) → t < line.horizon * n → Names line x → CoverBefore t
      → Covers (own x (t / n)) (value x t)
  unfolding own_pair Names
  own_covers (Timer x p e) t early h cover =
      timed_covers x p e t h.1.0 h.1.1
      (λ r le. tree_covers x r (omega arith) h.0 (cover_earlier r t le cover))
  own_covers x t early h cover = tree_covers x t early h cover

module _ (laws : HistoryLaws) (names : TreesNameTheLine) (n : ℕ) (some : 1 ≤ n) (line : Line)
    (script : Script) (box : Box) (assumed : List Assumption) (choice : Choice) (w : PairHistory)
    (h : History) (d : LeastFromOne line box) (have : HaveSpans line assumed)
    (is_w : IsPairHistoryUnder line script box assumed w) (within : IsFineWithin n line choice box)
    (is_h : IsFineHistory n line script choice h)
    (agree : AgreesWithAll n line script choice h assumed) where
  value_covers : (x : Tree) (t : ℕ) → t < line.horizon * n → Names line x
      → ((k r : ℕ) → k < terminal_count line → r < t → Covers (w.key k (r / n)) (h.key k r))
      → Covers (pair_under (assumed_level line box assumed) (pair_world_of line script box) w.key x
      (t / n)) (mean (fine_world_of n line script choice) h.key x t)
  value_covers x t early named cover =
      tree_covers laws n some line script box choice d within (assumed_level line box assumed) w.key
      h.key (levels_of laws names n some line script box choice h within assumed have agree) x t
      early named cover

  -- what equals a pair that covers a value covers what equals the value
  told : (x y : Rails) (u v : Bool) → x ≡ y → u ≡ v → Covers y v → Covers x u
  told x y u v e f cover = record {
    must = λ on. f ∙ cover.must (sym (ap (λ (r : Rails). r.must) e) ∙ on);
    may = λ on. ap (λ (r : Rails). r.may) e ∙ cover.may (sym f ∙ on);
  }

  keys_cover : (t : ℕ) → t ≤ line.horizon * n → (k r : ℕ) → k < terminal_count line → r < t
      → Covers (w.key k (r / n)) (h.key k r)
  keys_cover zero le k r kn lt = absurd (omega arith)
  keys_cover (suc t) le k r kn lt =
      ⊎_elim (λ earlier. keys_cover t (omega arith) k r kn earlier)
      (λ last. let e : t ≡ r = omega arith in
      let early : t < line.horizon * n = omega arith in
      let now : Covers (w.key k (t / n)) (h.key k t) =
      told (w.key k (t / n)) _ (h.key k t) _
      (is_w.keys k (t / n) kn (before n some line.horizon t early)) (is_h.keys k t kn early)
      (value_covers (key_tree line k) t early (names.keys line k kn) (keys_cover t (omega arith))) in
      subst (λ (s : ℕ). Covers (w.key k (s / n)) (h.key k s)) e now)
      (cases_lt r t)

  pub history_covered : CoversFineHistory n line w h
  history_covered = record {
    keys = keys_cover (line.horizon * n) (omega arith);
    trips = λ k t kn lt.
        told (w.trip k (t / n)) _ (h.trip k t) _
        (is_w.trips k (t / n) kn (before n some line.horizon t lt)) (is_h.trips k t kn lt)
        (value_covers (trip_tree line k) t lt (names.trips line k kn)
        (λ j r jn before_t. keys_cover t (omega arith) j r jn before_t));
  }

  pub tree_covered : (x : Tree) (t : ℕ) → t < line.horizon * n → Names line x
      → Covers (own_pair (assumed_level line box assumed) (pair_world_of line script box) w.key x
      (t / n)) (mean (fine_world_of n line script choice) h.key x t)
  tree_covered x t early named =
      own_covers laws n some line script box choice d within (assumed_level line box assumed) w.key
      h.key (levels_of laws names n some line script box choice h within assumed have agree) x t
      early named (λ j r jn before_t. keys_cover t (omega arith) j r jn before_t)
