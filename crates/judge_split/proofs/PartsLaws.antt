-- The parts of a box, level by level.
use Rattle.std.proofs.Common.{◌≡◌, ◌<◌, ◌+◌, ◌*◌, ◌⊎◌, ℕ, List, [], ◌∷◌, ◌++◌, Some, length, sym}
use Rattle.std.proofs.Common.{subst, arith, ⊎_elim}
use Rattle.std.proofs.lemmas.Bool.{cases_lt}
use Rattle.std.proofs.lemmas.Option.{slice_get_within}
use Rattle.std.specs.Prelude.{slice_get}
use Rattle.model_line.specs.{declared.line.Line.Line, SetBounds.SameButParams}
use Rattle.model_line.specs.SameLineLaws.{on_from}
use Rattle.judge_split.specs.Search.{IsLower, IsUpper}
use Rattle.judge_split.specs.{Widths.IsWidest, Widths.IsNarrow, Quiet.HasHalves, Quiet.HalvesIfAny}
use Rattle.judge_split.proofs.ListLaws.{at_two, two_longer}

-- a line has one widest parameter
pub one_widest : (line : Line) (p q : ℕ) → IsWidest line p → IsWidest line q → p ≡ q
one_widest line p q a b =
    ⊎_elim
    (λ low. let less = b.first p low in let most = a.widest q b.exists in absurd (omega arith))
    (λ high.
    ⊎_elim
    (λ low. let less = a.first q low in let most = b.widest p a.exists in absurd (omega arith))
    (λ same. omega arith)
    (cases_lt q p))
    (cases_lt p q)

-- the two halves, and those of the first n parts
pub record SoFar (line : Line) (param n : ℕ) (parts : List Line) : Type 0 where
  pub count : length parts ≡ 2 * n + 2
  pub rest : (i : ℕ) (part : Line) → slice_get parts i ≡ Some part → SameButParams line part
  pub first : (part : Line) → slice_get parts 0 ≡ Some part → IsLower line param part
  pub second : (part : Line) → slice_get parts 1 ≡ Some part → IsUpper line param part
  pub halves : (i : ℕ) → HasHalves parts i

pub two_parts : (line : Line) (param : ℕ) (parts : List Line) (lower upper : Line)
    → parts ≡ ([] ++ lower ∷ []) ++ upper ∷ [] → IsLower line param lower
    → IsUpper line param upper → SoFar line param 0 parts
two_parts line param parts lower upper is is_lower is_upper =
    let long : length parts ≡ 2 = two_longer [] parts lower upper is in
    let which : (i : ℕ) (x : Line) → slice_get parts i ≡ Some x
    → ((i ≡ 0) × (x ≡ lower)) ⊎ ((i ≡ 1) × (x ≡ upper)) =
    λ i x at. ⊎_elim (λ none. absurd (cc)) (λ one. one) (at_two [] parts lower upper is i x at) in
    record {
      count = omega arith;
      rest = λ i x at.
          ⊎_elim
          (λ a. subst (λ (l : Line). SameButParams line l) (sym a.1) is_lower.rest)
          (λ b. subst (λ (l : Line). SameButParams line l) (sym b.1) is_upper.rest)
          (which i x at);
      first = λ x at.
          ⊎_elim (λ a. subst (λ (l : Line). IsLower line param l) (sym a.1) is_lower)
          (λ b. let no : 0 ≡ 1 = b.0 in absurd (omega arith)) (which 0 x at);
      second = λ x at.
          ⊎_elim (λ a. let no : 1 ≡ 0 = a.0 in absurd (omega arith))
          (λ b. subst (λ (l : Line). IsUpper line param l) (sym b.1) is_upper) (which 1 x at);
      halves = λ i. record {
        halves = λ part first second p at at_first at_second widest.
            let inside = slice_get_within parts (2 * i + 2) first at_first in
            absurd (omega arith);
      };
    }

module _ (line : Line) (param n : ℕ) (old new : List Line) (part first second : Line)
    (is : new ≡ (old ++ first ∷ []) ++ second ∷ []) (at : slice_get old n ≡ Some part)
    (of_first : SameButParams part first) (of_second : SameButParams part second)
    (both : HalvesIfAny part first second) (so_far : SoFar line param n old) where
  -- what stands before the two is as it was
  kept : (i : ℕ) (x : Line) → i < length old → slice_get new i ≡ Some x → slice_get old i ≡ Some x
  kept i x early here =
      ⊎_elim (λ before. before)
      (λ late. absurd (⊎_elim (λ a. let e : i ≡ length old = a.0 in omega arith)
      (λ b. let e : i ≡ length old + 1 = b.0 in omega arith) late))
      (at_two old new first second is i x here)

  new_first : (i : ℕ) (x : Line) → i ≡ length old → slice_get new i ≡ Some x → x ≡ first
  new_first i x e here =
      ⊎_elim
      (λ before. let inside = slice_get_within old i x before in absurd (omega arith))
      (λ late. ⊎_elim (λ a. a.1) (λ b. let f : i ≡ length old + 1 = b.0 in absurd (omega arith)) late)
      (at_two old new first second is i x here)

  new_second : (i : ℕ) (x : Line) → i ≡ length old + 1 → slice_get new i ≡ Some x → x ≡ second
  new_second i x e here =
      ⊎_elim
      (λ before. let inside = slice_get_within old i x before in absurd (omega arith))
      (λ late. ⊎_elim (λ a. let f : i ≡ length old = a.0 in absurd (omega arith)) (λ b. b.1) late)
      (at_two old new first second is i x here)

  long : length new ≡ length old + 2
  long = two_longer old new first second is

  here_same : (x : Line) → slice_get new n ≡ Some x → x ≡ part
  here_same x here =
      let early : n < length old = omega (arith, so_far.count) in
      let mine = kept n x early here in
      cc

  more_halves : (i : ℕ) → HasHalves new i
  more_halves i = record {
    halves = λ p f s q here at_first at_second widest.
        let inside = slice_get_within new (2 * i + 2) f at_first in
        let count = so_far.count in
        let longer = long in
        ⊎_elim
        (λ low.
        (so_far.halves i).halves p f s q (kept i p (omega arith) here)
        (kept (2 * i + 2) f (omega arith) at_first)
        (kept (2 * i + 3) s (omega arith) at_second) widest)
        (λ high.
        let e : i ≡ n = omega arith in
        let ep : p ≡ part =
        here_same p (subst (λ (j : ℕ). slice_get new j ≡ Some p) e here) in
        let ef : f ≡ first = new_first (2 * i + 2) f (omega arith) at_first in
        let es : s ≡ second = new_second (2 * i + 3) s (omega arith) at_second in
        let got = both q (subst (λ (l : Line). IsWidest l q) ep widest) in
        let in_part : IsLower part q f × IsUpper part q s = (
          subst (λ (l : Line). IsLower part q l) (sym ef) got.0,
          subst (λ (l : Line). IsUpper part q l) (sym es) got.1,
        ) in
        subst (λ (l : Line). IsLower l q f × IsUpper l q s) (sym ep) in_part)
        (cases_lt i n);
  }

  pub more_parts : SoFar line param (n + 1) new
  more_parts =
      let count = so_far.count in
      let longer = long in
      record {
        count = omega arith;
        rest = λ i x here.
            ⊎_elim (λ before. so_far.rest i x before)
            (λ late.
            ⊎_elim
            (λ a. subst (λ (l : Line). SameButParams line l) (sym a.1)
            (on_from line part first (so_far.rest n part at) of_first))
            (λ b. subst (λ (l : Line). SameButParams line l) (sym b.1)
            (on_from line part second (so_far.rest n part at) of_second)) late)
            (at_two old new first second is i x here);
        first = λ x here. so_far.first x (kept 0 x (omega arith) here);
        second = λ x here. so_far.second x (kept 1 x (omega arith) here);
        halves = more_halves;
      }

-- ---- the halves of one part

pub no_halves : (part a b : Line) → IsNarrow part → HalvesIfAny part a b
no_halves part a b none = λ param widest.
    let free = widest.free in
    let same = none.narrow param widest.exists in
    absurd (omega arith)

pub widest_halves : (part a b : Line) (param : ℕ) → IsWidest part param → IsLower part param a
    → IsUpper part param b → HalvesIfAny part a b
widest_halves part a b param widest lower upper = λ q is.
    subst (λ (p : ℕ). IsLower part p a × IsUpper part p b) (one_widest part param q widest is)
    (lower, upper)
