-- Corners of a box.
use Rattle.std.proofs.Common.{◌≡◌, ◌≤◌, ◌<◌, ◌+◌, ℕ, Bool, true, false, List, [], ◌∷◌, ◌++◌, Some}
use Rattle.std.proofs.Common.{length, get_or, inl, inr, sym, ◌∙◌, ap, subst, arith, ⊎_elim}
use Rattle.std.proofs.lemmas.Bool.{cases_lt, cases_eq}
use Rattle.std.specs.Prelude.{slice_get, if◌then◌else◌}
use Rattle.model_history.specs.Rails.{Ends, single}
use Rattle.model_history.specs.ListLaws.{last_push, before_append}
use Rattle.run_signal.specs.Spans.{ends_of}
use Rattle.model_line.specs.Parameters.{param_count, declared_ends}
use Rattle.model_line.specs.Intervals.{leasts, greatests}
use Rattle.model_line.specs.{declared.line.Line.Line, declared.line.Param.Param}
use Rattle.model_line.specs.{SetBounds.SameButParams, SameLine.SameLine, WithBounds.IsWithBounds}
use Rattle.model_line.specs.SameLineLaws.{on_from}
use Rattle.model_logic.specs.Boxes.{ends_with}
use Rattle.model_logic.specs.BoxLaws.{ends_with-here, ends_with-elsewhere}
use Rattle.judge_split.specs.Known.{Known}
use Rattle.model_history.specs.Recorded.{at as is_wide}
use Rattle.judge_split.specs.Quiet.{IsCorner, AreCorners, number_of, corner_number}
use Rattle.judge_split.proofs.ListLaws.{at_two}
use Rattle.judge_split.proofs.PartLaws.{ends_changed}

-- the interval of a parameter in a corner
abbrev pub corner_ends : Line → List Bool → Bool → ℕ → ℕ → Ends
corner_ends line wide high but i =
    if is_wide wide i then declared_ends line i else single (corner_number line high but i)

-- the first n parameters are as in the corner, and the others as in the line
pub record CornerSoFar (line : Line) (wide : List Bool) (high : Bool) (but n : ℕ) (corner : Line)
    : Type 0 where
  pub rest : SameButParams line corner
  pub done : (i : ℕ) → i < param_count line → i < n
      → declared_ends corner i ≡ corner_ends line wide high but i
  pub left : (i : ℕ) → i < param_count line → n ≤ i
      → declared_ends corner i ≡ declared_ends line i

pub no_corner_yet : (line : Line) (wide : List Bool) (high : Bool) (but : ℕ) (corner : Line)
    → SameLine line corner → CornerSoFar line wide high but 0 corner
no_corner_yet line wide high but corner same = record {
  rest = same.rest;
  done = λ i there lt. absurd (omega arith);
  left = λ i there lt. ap (λ (ps : List Param). ends_of (get_or (leasts ps) i 0)
      (get_or (greatests ps) i 0)) same.params;
}

-- a number of a corner lies in the interval
pub number_between : (ends : Ends) (high other : Bool) → ends.least ≤ ends.greatest
    → (ends.least ≤ number_of ends high other) × (number_of ends high other ≤ ends.greatest)
number_between ends true true h = (omega arith, omega arith)
number_between ends true false h = (omega arith, omega arith)
number_between ends false true h = (omega arith, omega arith)
number_between ends false false h = (omega arith, omega arith)

-- a parameter that is wide stays as it is
pub wide_more : (line : Line) (wide : List Bool) (high : Bool) (but n : ℕ) (corner : Line)
    → is_wide wide n ≡ true → CornerSoFar line wide high but n corner
    → CornerSoFar line wide high but (n + 1) corner
wide_more line wide high but n corner on so_far = record {
  rest = so_far.rest;
  done = λ i there lt.
      ⊎_elim (λ low. so_far.done i there low)
      (λ late.
      let e : i ≡ n = omega arith in
      so_far.left i there (omega arith)
      ∙ ap (λ (b : Bool). if b then declared_ends line i else single (corner_number line high but i))
      (sym (ap (is_wide wide) e ∙ on)))
      (cases_lt i n);
  left = λ i there lt. so_far.left i there (omega arith);
}

-- any other gets its number
pub closed_more : Known → (line : Line) (wide : List Bool) (high : Bool) (but n number : ℕ)
    (corner new : Line) → n < param_count line → is_wide wide n ≡ false
    → number ≡ corner_number line high but n → IsWithBounds corner n number number new
    → CornerSoFar line wide high but n corner → CornerSoFar line wide high but (n + 1) new
closed_more known line wide high but n number corner new there off is bounds so_far =
    let here = subst (λ (m : ℕ). n < m) (sym (known.counts.params line corner so_far.rest)) there in
    let changed : (i : ℕ) → i < param_count line
    → declared_ends new i ≡ ends_with (declared_ends corner) n (single number) i =
    λ i inside. ends_changed known corner new n number number here bounds i
    (subst (λ (m : ℕ). i < m) (sym (known.counts.params line corner so_far.rest)) inside) in
    record {
      rest = on_from line corner new so_far.rest bounds.rest;
      done = λ i inside lt.
          elim (cases_eq i n) [
            | inl same ↦
                changed i inside ∙ ends_with-here (declared_ends corner) n (single number) i same
                ∙ ap single (is ∙ ap (corner_number line high but) (sym same))
                ∙ ap (λ (b : Bool). if b then declared_ends line i
                else single (corner_number line high but i)) (sym (ap (is_wide wide) same ∙ off))
            | inr apart ↦
                changed i inside
                ∙ ends_with-elsewhere (declared_ends corner) n (single number) i apart
                ∙ so_far.done i inside (omega arith)
          ];
      left = λ i inside late.
          let apart : i ≡ n → ⊥ = λ e. absurd (omega arith) in
          changed i inside
          ∙ ends_with-elsewhere (declared_ends corner) n (single number) i apart
          ∙ so_far.left i inside (omega arith);
    }

-- two corners more
pub corners_more : (line : Line) (wide : List Bool) (n : ℕ) (old new : List Line) (low top : Line)
    → new ≡ (old ++ low ∷ []) ++ top ∷ [] → IsCorner line wide false n low
    → IsCorner line wide true n top → AreCorners line wide n old → AreCorners line wide (n + 1) new
corners_more line wide n old new low top is is_low is_top are = record {
  rest = λ j corner at.
      ⊎_elim (λ before. are.rest j corner before)
      (λ late.
      ⊎_elim (λ a. subst (λ (l : Line). SameButParams line l) (sym a.1) is_low.rest)
      (λ b. subst (λ (l : Line). SameButParams line l) (sym b.1) is_top.rest) late)
      (at_two old new low top is j corner at);
  each = λ high but lt.
      ⊎_elim
      (λ early.
      let (j, corner, at, corner_is) = are.each high but early in (
        j,
        corner,
        subst (λ (l : List Line). slice_get l j ≡ Some corner) (sym is)
            (before_append (old ++ low ∷ []) (top ∷ []) j corner (before_append old (low ∷ []) j corner at)),
        corner_is,
      ))
      (λ late.
      let e : n ≡ but = omega arith in
      newest high but e)
      (cases_lt but n);
} where
  newest : (high : Bool) (but : ℕ) → n ≡ but → (j : ℕ) × (corner : Line)
      × (slice_get new j ≡ Some corner) × IsCorner line wide high but corner
  newest false but e = (
    length old,
    low,
    subst (λ (l : List Line). slice_get l (length old) ≡ Some low) (sym is)
        (before_append (old ++ low ∷ []) (top ∷ []) (length old) low (last_push old low)),
    subst (λ (m : ℕ). IsCorner line wide false m low) e is_low,
  )
  newest true but e = (
    length (old ++ low ∷ []),
    top,
    subst (λ (l : List Line). slice_get l (length (old ++ low ∷ [])) ≡ Some top) (sym is)
        (last_push (old ++ low ∷ []) top),
    subst (λ (m : ℕ). IsCorner line wide true m top) e is_top,
  )
