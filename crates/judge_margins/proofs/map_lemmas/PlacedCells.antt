-- A cell is the declared box of the line whose intervals are placed there.
use Rattle.std.proofs.Common.{◌≡◌, ◌≤◌, ◌<◌, ◌+◌, ◌-◌, ◌||◌, ℕ, zero, suc, Bool, true, false, cond, List}
use Rattle.std.proofs.Common.{[], ◌∷◌, Option, None, Some, length, subst, sym, ◌∙◌, ap, refl, arith}
use Rattle.std.proofs.Common.{inl, inr, ⊎_elim, eq-eqb}
use Rattle.std.proofs.lemmas.Bool.{cases_eq, cases_lt, ne_eqb, or_right}
use Rattle.std.proofs.lemmas.Option.{slice_get_within}
use Rattle.std.specs.Prelude.{slice_get, get_or, map, ◌==◌}
use Rattle.std.specs.List.{list_any}
use Rattle.model_history.specs.ListLaws.{exists_at}
use Rattle.model_history.specs.Rails.{Ends}
use Rattle.model_line.specs.Parameters.{declared_ends, delay_param, param_count}
use Rattle.model_line.specs.{declared.line.Line.Line, declared.line.Param.Param}
use Rattle.model_line.specs.SetBounds.{SameButParams}
use Rattle.model_line.specs.SameLineLaws.{on_from}
use Rattle.model_logic.specs.{Choice.declared_box, Boxes.ends_with}
use Rattle.judge_margins.specs.{map.Known.Known, declared.map.axis.Axis.Axis, declared.map.axis.Axes.Axes}
use Rattle.judge_margins.specs.map.Placed.{AreOfLine, IsPlaced, width_of}
use Rattle.judge_margins.specs.map.Axes.{IsSecond, ends_along, ends_up, least_at, moved, moves}
use Rattle.judge_margins.specs.map.MapLaws.{ACellIsOfThePlacedLine, IsPlacedUp}
use Rattle.judge_margins.specs.map.PlaceLaws.{place_of}
use Rattle.judge_margins.proofs.map_lemmas.PlacedLaws.{placed_rest}

-- what is said of an interval of a line with the first n intervals placed
record Told (line : Line) (params : List ℕ) (least n : ℕ) (other : Line) (i : ℕ) : Type 0 where
  inside : (j : ℕ) → j < n → slice_get params j ≡ Some i
      → declared_ends other i ≡ moved line i least
  outside : ((j : ℕ) → j < n → slice_get params j ≡ Some i → ⊥)
      → declared_ends other i ≡ declared_ends line i

with_same : (before other : Line) (param i : ℕ) (new : Ends) → i ≡ param
    → declared_ends other i ≡ ends_with (declared_ends before) param new i
    → declared_ends other i ≡ new
with_same before other param i new same is =
    is ∙ ap (λ (b : Bool). cond b new (declared_ends before i)) (eq-eqb i param same)

with_other : (before other : Line) (param i : ℕ) (new : Ends) → (i ≡ param → ⊥)
    → declared_ends other i ≡ ends_with (declared_ends before) param new i
    → declared_ends other i ≡ declared_ends before i
with_other before other param i new apart is =
    is ∙ ap (λ (b : Bool). cond b new (declared_ends before i)) (ne_eqb i param apart)

told_more : (line before other : Line) (params : List ℕ) (least n param i : ℕ)
    → slice_get params n ≡ Some param
    → declared_ends other i
    ≡ ends_with (declared_ends before) param (moved line param least) i
    → Told line params least n before i → Told line params least (suc n) other i
told_more line before other params least n param i at is so_far = elim (cases_eq i param) [
  | inl same ↦
      let new : declared_ends other i ≡ moved line i least =
      with_same before other param i (moved line param least) same is
      ∙ ap (λ (p : ℕ). moved line p least) (sym same) in
      record {
        inside = λ j lt here. new;
        outside = λ none.
            absurd (none n (omega arith)
            (subst (λ (p : ℕ). slice_get params n ≡ Some p) (sym same) at));
      }
  | inr apart ↦
      let kept = with_other before other param i (moved line param least) apart is in
      record {
        inside = λ j lt here.
            ⊎_elim (λ early. kept ∙ so_far.inside j early here)
            (λ last.
            let same : j ≡ n = omega (arith, lt, last) in
            let there = subst (λ (m : ℕ). slice_get params m ≡ Some i) same here in
            absurd (apart (cc)))
            (cases_lt j n);
        outside = λ none. kept ∙ so_far.outside (λ j lt here. none j (omega (arith, lt)) here);
      }
]

module _ (known : Known) where
  told : (line : Line) (params : List ℕ) (least n : ℕ) (other : Line) (i : ℕ)
      → AreOfLine line params → n ≤ length params → IsPlaced line params least n other
      → i < param_count line → Told line params least n other i
  unfolding declared_box
  told line params least zero other i are le is here = record {
    inside = λ j lt at. absurd (omega (arith, lt));
    outside = λ none. ap (λ (ps : List Param). record {
      least = get_or (map (λ p. p.least) ps) i 0;
      greatest = get_or (map (λ p. p.greatest) ps) i 0;
    }) is.params;
  }
  told line params least (suc n) other i are le is here =
      let (param, at) = exists_at params n (omega (arith, le)) in
      let rest : SameButParams line is.0 = placed_rest line is.0 params least n (omega (arith, le)) is.1 in
      let count = known.counts.params line is.0 rest in
      let own : param < param_count is.0 =
      subst (λ (m : ℕ). param < m) (sym count) (are n param at) in
      let changed = known.changed.all is.0 other param least (least + width_of line param) own
      (is.2 param at) in
      told_more line is.0 other params least n param i at
      (changed.numbers i (subst (λ (m : ℕ). i < m) (sym count) here))
      (told line params least n is.0 i are (omega (arith, le)) is.1 here)

-- what has a place in a list is one of it
found : (xs : List ℕ) (j x : ℕ) → slice_get xs j ≡ Some x → list_any (λ p. p == x) xs ≡ true
found [] j x at = absurd (cc)
found (y ∷ xs) zero x at =
    let same : y ≡ x = cc in
    ap (λ (b : Bool). b || list_any (λ p. p == x) xs) (eq-eqb y x same)
found (y ∷ xs) (suc j) x at =
    or_right (y == x) (list_any (λ p. p == x) xs) (found xs j x at)

along_is : (line other : Line) (axis : Axis) (n i : ℕ) (b : Bool) → moves axis i ≡ b
    → Told line axis.params.items (least_at axis n) (length axis.params.items) other i
    → declared_ends other i ≡ cond b (moved line i (least_at axis n)) (declared_ends line i)
along_is line other axis n i true is told =
    let (j, at) = place_of axis.params.items i is in
    told.inside j (slice_get_within axis.params.items j i at) at
along_is line other axis n i false is told =
    told.outside (λ j lt at.
    let on : moves axis i ≡ true = found axis.params.items j i at in absurd (cc))

kept_width : (line : Line) (b : Bool) (i least : ℕ) (e : Ends)
    → e ≡ cond b (moved line i least) (declared_ends line i) → e.greatest - e.least ≡ width_of line i
kept_width line true i least e is =
    ap (λ (x : Ends). x.greatest - x.least) is ∙ omega arith
kept_width line false i least e is = ap (λ (x : Ends). x.greatest - x.least) is

up_is : (line between other : Line) (axis : Axis) (n i : ℕ) (b : Bool) (e : Ends)
    → width_of between i ≡ width_of line i → declared_ends between i ≡ e
    → declared_ends other i ≡ cond b (moved between i (least_at axis n)) (declared_ends between i)
    → declared_ends other i ≡ cond b (moved line i (least_at axis n)) e
up_is line between other axis n i b e width below is =
    is
    ∙ ap (λ (w : ℕ). cond b
    (record { least = least_at axis n; greatest = least_at axis n + w }) (declared_ends between i)) width
    ∙ ap (λ (x : Ends). cond b (moved line i (least_at axis n)) x) below

module _ (known : Known) (line between : Line) (axes : Axes) (column : ℕ)
    (x_params : AreOfLine line axes.x.params.items)
    (is_x : IsPlaced line axes.x.params.items (least_at axes.x column)
    (length axes.x.params.items) between) where
  first_same : SameButParams line between
  first_same =
      placed_rest line between axes.x.params.items (least_at axes.x column)
      (length axes.x.params.items) (omega arith) is_x

  first_is : (i : ℕ) → i < param_count line
      → declared_ends between i ≡ ends_along line axes.x column (declared_ends line) i
  first_is i here =
      along_is line between axes.x column i (moves axes.x i) refl
      (told known line axes.x.params.items (least_at axes.x column) (length axes.x.params.items)
      between i x_params (omega arith) is_x here)

  second_same : (y : Option Axis) (row : ℕ) (other : Line)
      → IsPlacedUp line y row between other → SameButParams line other
  second_same None row other is = subst (SameButParams line) (sym is) first_same
  second_same (Some axis) row other is =
      on_from line between other first_same
      (placed_rest between other axis.params.items (least_at axis row) (length axis.params.items)
      (omega arith) is)

  second_is : (y : Option Axis) (row : ℕ) (other : Line) → IsSecond line y
      → IsPlacedUp line y row between other → (i : ℕ) → i < param_count line
      → declared_ends other i
      ≡ ends_up line y row (ends_along line axes.x column (declared_ends line)) i
  second_is None row other are is i here =
      subst (λ (o : Line). declared_ends o i
      ≡ ends_along line axes.x column (declared_ends line) i) (sym is) (first_is i here)
  second_is (Some axis) row other are is i here =
      let count = known.counts.params line between first_same in
      let params : AreOfLine between axis.params.items =
      λ j p at. subst (λ (m : ℕ). p < m) (sym count) (are.params j p at) in
      up_is line between other axis row i (moves axis i)
      (ends_along line axes.x column (declared_ends line) i)
      (kept_width line (moves axes.x i) i (least_at axes.x column) (declared_ends between i)
      (first_is i here))
      (first_is i here)
      (along_is between other axis row i (moves axis i) refl
      (told known between axis.params.items (least_at axis row) (length axis.params.items) other i
      params (omega arith) is (subst (λ (m : ℕ). i < m) (sym count) here)))

pub placed_cell : Known → ACellIsOfThePlacedLine
unfolding declared_box
placed_cell known line between other axes column row are is_x is_y =
    let ends = second_is known line between axes column are.x.params is_x axes.y row other are.y is_y in
    let same = second_same known line between axes column are.x.params is_x axes.y row other is_y in
    record {
      numbers = ends;
      delays = λ c t lt early.
          ap (declared_ends other) (known.counts.delays line other c same)
          ∙ ends (delay_param line c) (known.lines.parameters.delays line c lt);
    }
