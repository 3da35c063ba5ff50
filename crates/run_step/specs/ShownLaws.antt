-- Spans that are present, that begin later, and that are over.
use Rattle.std.proofs.Common.{◌≡◌, ℕ, suc, ◌+◌, ◌<◌, ◌≤◌, List, [], ◌∷◌, ◌++◌, Some, length, drop}
use Rattle.std.proofs.Common.{get_or, Bool, true, false, ◌&&◌, ◌||◌, refl, sym, ◌∙◌, ap, arith}
use Rattle.std.proofs.Common.{subst, length-drop, append_assoc}
use Rattle.std.proofs.Math.Seq.{drop-cons}
use Rattle.std.proofs.lemmas.Bool.{lt-leb, lt-ltb, ltb-true}
use Rattle.std.proofs.lemmas.List.{get_or-drop}
use Rattle.std.proofs.lemmas.List.Folds.{list_any-append}
use Rattle.std.proofs.lemmas.List.Sorted.{list_any-IsPermutation}
use Rattle.std.proofs.lemmas.Map.Views.{any-filter_same}
use Rattle.std.proofs.lemmas.Option.{slice_get-get_or, slice_get_within, get_or_from_slice_get}
use Rattle.std.specs.Prelude.{nat_le, nat_lt, slice_get}
use Rattle.std.specs.List.{list_any, filter}
use Rattle.std.specs.List.Sorted.{IsPermutation, IsNonDecreasingBy}
use Rattle.model_line.specs.Seen.{is_of_place, is_of_loss, shows, loses}
use Rattle.model_line.specs.declared.script.SeenSpan.{SeenSpan}
use Rattle.run_step.specs.{Shown.ShowTheSame, Quiet.ScriptKeeps, Quiet.AllKeep}
use Rattle.run_step.specs.InputLaws.{script_keeps}

or_false : (b : Bool) → (b || false) ≡ b
or_false true = refl
or_false false = refl

and_false : (b : Bool) → (b && false) ≡ false
and_false true = refl
and_false false = refl

last_true : (a b c : Bool) → (a && (b && c)) ≡ true → c ≡ true
last_true true true c is = is
last_true true false c is = absurd (cc)
last_true false b c is = absurd (cc)

pub same_trans : (t : ℕ) (xs ys zs : List SeenSpan) → ShowTheSame t xs ys → ShowTheSame t ys zs
    → ShowTheSame t xs zs
same_trans t xs ys zs one two = record {
  seen = λ p. one.seen p ∙ two.seen p;
  lost = λ c. one.lost c ∙ two.lost c;
}

pub keeps_alike : (xs ys : List SeenSpan) (t n : ℕ) → 1 ≤ n
    → ((r : ℕ) → t ≤ r → r < t + n → ShowTheSame r xs ys) → ScriptKeeps xs t n → ScriptKeeps ys t n
keeps_alike xs ys t n some same keeps =
    let now = same t (omega arith) (omega arith) in
    record {
      seen = λ p r low high.
          sym ((same r low high).seen p) ∙ keeps.seen p r low high ∙ now.seen p;
      lost = λ c r low high.
          sym ((same r low high).lost c) ∙ keeps.lost c r low high ∙ now.lost c;
    }

pub same_in_order : (t : ℕ) (spans ordered : List SeenSpan) → IsPermutation spans ordered
    → ShowTheSame t ordered spans
same_in_order t spans ordered same = record {
  seen = λ p. sym (list_any-IsPermutation (shows p t) spans ordered same);
  lost = λ c. sym (list_any-IsPermutation (loses c t) spans ordered same);
}

-- ---- those that are over

-- what tells a later tick is not over
not_over_yet : (span : SeenSpan) (a : Bool) (t r : ℕ) → t ≤ r
    → (a && (nat_le span.from r && nat_lt r span.to)) ≡ true → nat_lt t span.to ≡ true
not_over_yet span a t r low is =
    let later : r < span.to = ltb-true r span.to (last_true a (nat_le span.from r) _ is) in
    lt-ltb t span.to (omega arith)

module _ (present later : List SeenSpan) (t r : ℕ) (low : t ≤ r) where
  abbrev left : List SeenSpan
  left = filter (λ (s : SeenSpan). nat_lt t s.to) present

  test_left : (test : SeenSpan → Bool)
      → ((s : SeenSpan) → test s ≡ true → nat_lt t s.to ≡ true)
      → list_any test (left ++ later) ≡ list_any test (present ++ later)
  test_left test live =
      list_any-append test left later
      ∙ ap (λ (b : Bool). b || list_any test later)
      (any-filter_same test (λ (s : SeenSpan). nat_lt t s.to) true live present)
      ∙ sym (list_any-append test present later)

  pub same_left : ShowTheSame r (left ++ later) (present ++ later)
  same_left = record {
    seen = λ p. test_left (shows p r) (λ s is. not_over_yet s (is_of_place p s.what) t r low is);
    lost = λ c. test_left (loses c r) (λ s is. not_over_yet s (is_of_loss c s.what) t r low is);
  }

-- ---- those that begin later

-- none of the spans begins before tick n
abbrev pub BeginFrom : ℕ → List SeenSpan → Type 0
BeginFrom n spans = (i : ℕ) (s : SeenSpan) → slice_get spans i ≡ Some s → n ≤ s.from

-- in spans in order of their beginnings, no later one begins before the one at this place
pub later_begin : (ordered : List SeenSpan) (begun n : ℕ)
    → IsNonDecreasingBy (λ (s : SeenSpan). s.from) ordered
    → ((s : SeenSpan) → slice_get ordered begun ≡ Some s → n ≤ s.from)
    → BeginFrom n (drop begun ordered)
later_begin ordered begun n rising first i s at =
    let within : i < length (drop begun ordered) = slice_get_within (drop begun ordered) i s at in
    let inside : begun + i < length ordered = omega (arith, length-drop begun ordered) in
    let here : get_or ordered (begun + i) s ≡ s =
    sym (get_or-drop begun ordered i s) ∙ get_or_from_slice_get (drop begun ordered) i s s at in
    let least : n ≤ (get_or ordered begun s).from =
    first (get_or ordered begun s) (slice_get-get_or ordered begun s (omega arith)) in
    let before : (get_or ordered begun s).from ≤ (get_or ordered (begun + i) s).from =
    rising begun (begun + i) s (omega arith) inside in
    subst (λ (x : SeenSpan). n ≤ x.from) here (omega arith)

not_begun : (span : SeenSpan) (a : Bool) (r : ℕ) → r < span.from
    → (a && (nat_le span.from r && nat_lt r span.to)) ≡ false
not_begun span a r early =
    ap (λ (b : Bool). a && (b && nat_lt r span.to)) (lt-leb span.from r early) ∙ and_false a

none_of : (test : SeenSpan → Bool) (spans : List SeenSpan)
    → ((i : ℕ) (s : SeenSpan) → slice_get spans i ≡ Some s → test s ≡ false)
    → list_any test spans ≡ false
none_of test [] each = refl
none_of test (s ∷ spans) each =
    ap (λ (b : Bool). b || list_any test spans) (each 0 s refl)
    ∙ none_of test spans (λ i x at. each (suc i) x at)

module _ (present later : List SeenSpan) (r n : ℕ) (early : r < n) (begin : BeginFrom n later)
  where
    test_present : (test : SeenSpan → Bool)
        → ((s : SeenSpan) → r < s.from → test s ≡ false)
        → list_any test present ≡ list_any test (present ++ later)
    test_present test off =
        sym (list_any-append test present later
        ∙ ap (λ (b : Bool). list_any test present || b)
        (none_of test later (λ i s at. let from : n ≤ s.from = begin i s at in off s (omega arith)))
        ∙ or_false (list_any test present))

    pub same_present : ShowTheSame r present (present ++ later)
    same_present = record {
      seen = λ p. test_present (shows p r) (λ s. not_begun s (is_of_place p s.what) r);
      lost = λ c. test_present (loses c r) (λ s. not_begun s (is_of_loss c s.what) r);
    }

-- ---- those that begin now

-- the next one goes to those present
pub one_begins : (present ordered : List SeenSpan) (taken : ℕ) (x : SeenSpan)
    → taken < length ordered → x ≡ get_or ordered taken x
    → (present ++ x ∷ []) ++ drop (taken + 1) ordered ≡ present ++ drop taken ordered
one_begins present ordered taken x inside is =
    let next : suc taken ≡ taken + 1 = omega arith in
    append_assoc present (x ∷ []) (drop (taken + 1) ordered)
    ∙ ap (λ (l : List SeenSpan). present ++ l)
    (sym (drop-cons ordered taken x inside
    ∙ ap (λ (y : SeenSpan). y ∷ drop (suc taken) ordered) (sym is)
    ∙ ap (λ (k : ℕ). x ∷ drop k ordered) next))

-- ---- a turn

-- those that have begun are taken, and those that are over are left out
module _ (present taken left ordered : List SeenSpan) (before begun t : ℕ)
    (same : taken ++ drop begun ordered ≡ present ++ drop before ordered)
    (kept : left ≡ filter (λ (s : SeenSpan). nat_lt t s.to) taken) where
  pub left_now : (r : ℕ) → t ≤ r
      → ShowTheSame r (left ++ drop begun ordered) (present ++ drop before ordered)
  left_now r low =
      subst (λ (l : List SeenSpan).
      ShowTheSame r (l ++ drop begun ordered) (present ++ drop before ordered)) (sym kept)
      (subst (ShowTheSame r (filter (λ (s : SeenSpan). nat_lt t s.to) taken ++ drop begun ordered))
      same (same_left taken (drop begun ordered) t r low))

  module _ (n : ℕ) (rising : IsNonDecreasingBy (λ (s : SeenSpan). s.from) ordered)
      (first : (s : SeenSpan) → slice_get ordered begun ≡ Some s → t + n ≤ s.from) where
    pub present_now : (r : ℕ) → t ≤ r → r < t + n
        → ShowTheSame r left (present ++ drop before ordered)
    present_now r low high =
        same_trans r left (left ++ drop begun ordered) (present ++ drop before ordered)
        (same_present left (drop begun ordered) r (t + n) high
        (later_begin ordered begun (t + n) rising first))
        (left_now r low)

    pub keeps_now : 1 ≤ n → AllKeep t n left → ScriptKeeps (present ++ drop before ordered) t n
    keeps_now some each =
        keeps_alike left (present ++ drop before ordered) t n some present_now
        (script_keeps left t n each)
