-- The spans that each gate shows, gate after gate in one list.
use Rattle.std.proofs.Common.{◌≡◌, ℕ, ◌+◌, ◌-◌, ◌<◌, ◌≤◌, List, [], ◌∷◌, ◌++◌, Some, length}
use Rattle.std.proofs.Common.{get_or, take, drop, refl, sym, ap, subst, ◌∙◌, arith, ⊎_elim}
use Rattle.std.proofs.Common.{Bool, true, false, cond, append_assoc}
use Rattle.std.proofs.lemmas.Bool.{cases_lt}
use Rattle.std.proofs.lemmas.List.{append-nil, drop-append-le, get_or_append_left, get_or_push}
use Rattle.std.proofs.lemmas.List.{length-append, length-drop, take-append-le}
use Rattle.std.proofs.lemmas.List.Elements.{filter_more}
use Rattle.std.proofs.Math.Seq.{drop-append_seam, take-length}
use Rattle.std.specs.Prelude.{slice_get}
use Rattle.std.specs.List.{filter, slice_range}
use Rattle.model_line.specs.declared.script.{Script.Script, SeenSpan.SeenSpan}
use Rattle.net_gates.specs.declared.gate.Gate.{Gate}
use Rattle.net_gates.specs.declared.gate.Gate.TheVariants.{Const, Seen, Loss, Raw, Not, And, Or}
use Rattle.net_gates.specs.declared.gate.Gate.TheVariants.{Timer, Seal}
use Rattle.run_step.specs.Shown.{is_shown_by}
use Rattle.run_changes.specs.{changes.ShownBy.AreListed, changes.ShownBy.AreStarts}
use Rattle.run_changes.specs.changes.ShownBy.{spans_at}
use Rattle.model_history.specs.ListLaws.{one_value}

-- the gate shows no span, whatever it is of
abbrev pub ShowsNone : Gate → Type 0
ShowsNone (Const v) = Unit {0}
ShowsNone (Seen p) = ⊥
ShowsNone (Loss c) = ⊥
ShowsNone (Raw c) = Unit {0}
ShowsNone (Not a) = Unit {0}
ShowsNone (And a b) = Unit {0}
ShowsNone (Or a b) = Unit {0}
ShowsNone (Timer a p d) = Unit {0}
ShowsNone (Seal a b) = Unit {0}

filter_none : (g : Gate) (all : List SeenSpan) → ShowsNone g → filter (is_shown_by g) all ≡ []
filter_none g [] none = refl
filter_none (Const v) (s ∷ all) none = filter_none (Const v) all none
filter_none (Seen p) (s ∷ all) none = absurd none
filter_none (Loss c) (s ∷ all) none = absurd none
filter_none (Raw c) (s ∷ all) none = filter_none (Raw c) all none
filter_none (Not a) (s ∷ all) none = filter_none (Not a) all none
filter_none (And a b) (s ∷ all) none = filter_none (And a b) all none
filter_none (Or a b) (s ∷ all) none = filter_none (Or a b) all none
filter_none (Timer a p d) (s ∷ all) none = filter_none (Timer a p d) all none
filter_none (Seal a b) (s ∷ all) none = filter_none (Seal a b) all none

pub none_shown : (g : Gate) (all spans : List SeenSpan) → ShowsNone g
    → spans ≡ spans ++ filter (is_shown_by g) all
none_shown g all spans none =
    sym (ap (λ l. spans ++ l) (filter_none g all none) ∙ append-nil spans)

-- one span more, which is kept or left
module _ (p : SeenSpan → Bool) (all pre old new : List SeenSpan) (i : ℕ) (d : SeenSpan)
    (lt : i < length all) (before : old ≡ pre ++ filter p (take i all)) where
  abbrev first : List SeenSpan
  first = filter p (take i all)

  pub kept_one : p (get_or all i d) ≡ true → new ≡ old ++ get_or all i d ∷ []
      → new ≡ pre ++ filter p (take (i + 1) all)
  kept_one on is =
      is ∙ ap (λ (l : List SeenSpan). l ++ get_or all i d ∷ []) before
      ∙ append_assoc pre first (get_or all i d ∷ [])
      ∙ ap (λ (b : Bool). pre ++ (first ++ cond b (get_or all i d ∷ []) [])) (sym on)
      ∙ ap (λ (l : List SeenSpan). pre ++ l) (sym (filter_more p all i d lt))

  pub left_one : p (get_or all i d) ≡ false → new ≡ old → new ≡ pre ++ filter p (take (i + 1) all)
  left_one off is =
      is ∙ before ∙ ap (λ (l : List SeenSpan). pre ++ l) (sym (append-nil first))
      ∙ ap (λ (b : Bool). pre ++ (first ++ cond b (get_or all i d ∷ []) [])) (sym off)
      ∙ ap (λ (l : List SeenSpan). pre ++ l) (sym (filter_more p all i d lt))

module _ {X : Type 0} where
  -- what stands between two places of a list does so in a longer one
  range_kept : (xs ys : List X) (a b : ℕ) → a ≤ b → b ≤ length xs
      → slice_range (xs ++ ys) a b ≡ slice_range xs a b
  range_kept xs ys a b ordered inside =
      let low : a ≤ length xs = omega arith in
      let long : b - a ≤ length (drop a xs) = omega (arith, length-drop a xs, ordered, inside) in
      ap (take (b - a)) (drop-append-le a xs ys low) ∙ take-append-le (b - a) (drop a xs) ys long

  -- and what was appended stands behind its end
  range_end : (xs ys : List X) (a b : ℕ) → a ≡ length xs → b ≡ length (xs ++ ys)
      → slice_range (xs ++ ys) a b ≡ ys
  range_end xs ys a b first last =
      let long : b - a ≡ length ys = omega (arith, first, last, length-append xs ys) in
      ap (λ (n : ℕ). take (b - a) (drop n (xs ++ ys))) first
      ∙ ap (take (b - a)) (drop-append_seam xs ys)
      ∙ ap (λ (n : ℕ). take n ys) long ∙ take-length ys

module _ (script : Script) (gates : List Gate) where
  pub listed_none : AreListed script gates 0 [] (0 ∷ [])
  listed_none = record {
    count = refl;
    are = record {
      rise = λ i lt. absurd (omega arith);
      inside = λ i lt. let first : i ≡ 0 = omega arith in
          subst (λ (k : ℕ). get_or (0 ∷ []) k 0 ≤ 0) (sym first) (omega arith);
    };
    last = refl;
    shown = λ i gate lt. absurd (omega arith);
  }

  -- one gate more
  module _ (i : ℕ) (gate : Gate) (at : slice_get gates i ≡ Some gate) (spans : List SeenSpan)
      (starts : List ℕ) (before : AreListed script gates i spans starts) where
    abbrev more : List SeenSpan
    more = filter (is_shown_by gate) script.spans.items

    abbrev longer : List ℕ
    longer = starts ++ length (spans ++ more) ∷ []

    start_kept : (k : ℕ) → k < i + 1 → get_or longer k 0 ≡ get_or starts k 0
    start_kept k lt =
        get_or_append_left starts (length (spans ++ more) ∷ []) 0 k (omega (arith, lt, before.count))

    start_end : get_or longer (i + 1) 0 ≡ length (spans ++ more)
    start_end = get_or_push starts (length (spans ++ more)) 0 (i + 1) before.count

    longer_count : length longer ≡ i + 1 + 1
    longer_count = omega (arith, length-append starts (length (spans ++ more) ∷ []), before.count)

    starts_more : AreStarts (spans ++ more) longer
    starts_more = record {
      rise = λ k lt.
          ⊎_elim
          (λ low.
          let here : get_or longer k 0 ≡ get_or starts k 0 = start_kept k (omega (arith, low)) in
          let next : get_or longer (k + 1) 0 ≡ get_or starts (k + 1) 0 =
          start_kept (k + 1) (omega (arith, low)) in
          let le : get_or starts k 0 ≤ get_or starts (k + 1) 0 =
          before.are.rise k (omega (arith, low, before.count)) in
          omega (arith, here, next, le))
          (λ ge.
          let same : k ≡ i = omega (arith, lt, ge, longer_count) in
          let here : get_or longer i 0 ≡ get_or starts i 0 = start_kept i (omega arith) in
          let le : get_or longer i 0 ≤ get_or longer (i + 1) 0 =
          omega (arith, here, before.last, start_end, length-append spans more) in
          subst (λ (j : ℕ). get_or longer j 0 ≤ get_or longer (j + 1) 0) (sym same) le)
          (cases_lt k i);
      inside = λ k lt.
          ⊎_elim
          (λ low.
          let here : get_or longer k 0 ≡ get_or starts k 0 = start_kept k low in
          let le : get_or starts k 0 ≤ length spans =
          before.are.inside k (omega (arith, low, before.count)) in
          omega (arith, here, le, length-append spans more))
          (λ ge.
          let same : k ≡ i + 1 = omega (arith, lt, ge, longer_count) in
          subst (λ (j : ℕ). get_or longer j 0 ≤ length (spans ++ more)) (sym same)
          (omega (arith, start_end)))
          (cases_lt k (i + 1));
    }

    shown_kept : (k : ℕ) (g : Gate) → k < i → slice_get gates k ≡ Some g
        → spans_at (spans ++ more) longer k ≡ filter (is_shown_by g) script.spans.items
    shown_kept k g lt ga =
        let le : get_or starts k 0 ≤ get_or starts (k + 1) 0 =
        before.are.rise k (omega (arith, lt, before.count)) in
        let inside : get_or starts (k + 1) 0 ≤ length spans =
        before.are.inside (k + 1) (omega (arith, lt, before.count)) in
        ap (λ (a : ℕ). slice_range (spans ++ more) a (get_or longer (k + 1) 0))
        (start_kept k (omega (arith, lt)))
        ∙ ap (λ (b : ℕ). slice_range (spans ++ more) (get_or starts k 0) b)
        (start_kept (k + 1) (omega (arith, lt)))
        ∙ range_kept spans more (get_or starts k 0) (get_or starts (k + 1) 0) le inside
        ∙ before.shown k g lt ga

    shown_here : spans_at (spans ++ more) longer i ≡ more
    shown_here =
        range_end spans more (get_or longer i 0) (get_or longer (i + 1) 0)
        (start_kept i (omega arith) ∙ before.last) start_end

    listed_one : AreListed script gates (i + 1) (spans ++ more) longer
    listed_one = record {
      count = longer_count;
      are = starts_more;
      last = start_end;
      shown = λ k g lt ga.
          ⊎_elim
          (λ low. shown_kept k g low ga)
          (λ ge. let same : i ≡ k = omega (arith, lt, ge) in
          ap (spans_at (spans ++ more) longer) (sym same) ∙ shown_here
          ∙ ap (λ (h : Gate). filter (is_shown_by h) script.spans.items)
          (one_value gates i k gate g same at ga))
          (cases_lt k i);
    }

    pub listed_more : (now : List SeenSpan) (new : List ℕ) → now ≡ spans ++ more
        → new ≡ starts ++ length now ∷ [] → AreListed script gates (i + 1) now new
    listed_more now new is are =
        let same : new ≡ longer = are ∙ ap (λ (l : List SeenSpan). starts ++ length l ∷ []) is in
        subst (λ (l : List SeenSpan). AreListed script gates (i + 1) l new) (sym is)
        (subst (λ (l : List ℕ). AreListed script gates (i + 1) (spans ++ more) l) (sym same)
        listed_one)
