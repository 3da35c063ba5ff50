-- The numbers of each candidate are those of a corner.
use Rattle.std.proofs.Common.{◌≡◌, ◌≤◌, ◌<◌, ◌+◌, ◌-◌, ◌⊎◌, ℕ, zero, suc, Bool, true, false, List}
use Rattle.std.proofs.Common.{take, length, get_or, inl, inr, refl, sym, ◌∙◌, ap, arith, ⊎_elim}
use Rattle.std.proofs.Common.{eqb, eq-eqb}
use Rattle.std.proofs.lemmas.Bool.{cases_eq, cases_lt, and_parts, false_from_ne_true}
use Rattle.std.proofs.lemmas.Bool.Decides.{nat_tests}
use Rattle.std.proofs.lemmas.List.{get_or-map}
use Rattle.std.proofs.lemmas.List.Sums.{count_by_more_yes, count_by_more_no}
use Rattle.std.specs.List.{count_by}
use Rattle.std.specs.Prelude.{nat_lt, nat_le}
use Rattle.model_line.specs.Parameters.{param_count, declared_ends}
use Rattle.model_line.specs.{declared.line.Line.Line, declared.line.Param.Param}
use Rattle.model_timing.specs.Candidates.{is_free, free_before, free_count, is_free_number}
use Rattle.model_timing.specs.Candidates.{candidate_value}
use Rattle.model_history.specs.ListLaws.{exists_at}
use Rattle.judge_split.specs.Quiet.{corner_number}

-- ---- at most one parameter has a number among those that are free

pub yes_or_no : (b : Bool) → (b ≡ true) ⊎ (b ≡ false)
yes_or_no true = inl refl
yes_or_no false = inr refl

same_number : (a b : ℕ) → eqb a b ≡ true → a ≡ b
same_number a b e = grind (arith, nat_tests)

-- a count of a longer front is no less
front_more : (p : Param → Bool) (xs : List Param) (i n : ℕ) (d : Param) → i + n < length xs
    → count_by p (take i xs) ≤ count_by p (take (i + n) xs)
front_more p xs i zero d lt =
    let e : i + zero ≡ i = omega arith in
    let same = ap (λ (m : ℕ). count_by p (take m xs)) e in
    omega arith
front_more p xs i (suc n) d lt =
    let before = front_more p xs i n d (omega arith) in
    let e : i + suc n ≡ i + n + 1 = omega arith in
    let same = ap (λ (m : ℕ). count_by p (take m xs)) e in
    let here : i + n < length xs = omega arith in
    ⊎_elim
    (λ yes. let more = count_by_more_yes p xs (i + n) d here yes in omega arith)
    (λ no. let more = count_by_more_no p xs (i + n) d here no in omega arith)
    (yes_or_no (p (get_or xs (i + n) d)))

module _ (line : Line) where
  abbrev params : List Param
  params = line.params.items

  counted : (i : ℕ) → i < param_count line → i < length params
  counted i lt = omega (arith, lt)

  free_at : (i : ℕ) (d : Param) → i < param_count line
      → nat_lt (declared_ends line i).least (declared_ends line i).greatest ≡ true
      → is_free (get_or params i d) ≡ true
  free_at i d lt free =
      ap (λ (n : ℕ). nat_lt n (get_or params i d).greatest)
      (sym (get_or-map (λ (p : Param). p.least) params i d 0 (counted i lt)))
      ∙ ap (nat_lt (declared_ends line i).least)
      (sym (get_or-map (λ (p : Param). p.greatest) params i d 0 (counted i lt)))
      ∙ free

  not_both : (n i j : ℕ) → i < j → j < param_count line → is_free_number line n i ≡ true
      → is_free_number line n j ≡ true → ⊥
  not_both n i j before lt first second =
      let a = and_parts
      (nat_lt (declared_ends line i).least (declared_ends line i).greatest)
      (eqb (free_before line i + 1) n) first in
      let b = and_parts
      (nat_lt (declared_ends line j).least (declared_ends line j).greatest)
      (eqb (free_before line j + 1) n) second in
      let ea : free_before line i + 1 ≡ n = same_number (free_before line i + 1) n a.1 in
      let eb : free_before line j + 1 ≡ n = same_number (free_before line j + 1) n b.1 in
      let low : i < param_count line = omega arith in
      let (d, at) = exists_at params i (counted i low) in
      let more : count_by is_free (take (i + 1) params) ≡ count_by is_free (take i params) + 1 =
      count_by_more_yes is_free params i d (counted i low) (free_at i d low a.0) in
      let e : i + 1 + (j - (i + 1)) ≡ j = omega arith in
      let inside : i + 1 + (j - (i + 1)) < length params = omega (arith, counted j lt) in
      let front = front_more is_free params (i + 1) (j - (i + 1)) d inside in
      let same = ap (λ (m : ℕ). count_by is_free (take m params)) e in
      omega arith

  -- the one that has it among those below m, if there is one
  abbrev Finds : ℕ → ℕ → Type 0
  Finds n m = ((i : ℕ) × (i < m) × (is_free_number line n i ≡ true))
      ⊎ ((i : ℕ) → i < m → is_free_number line n i ≡ false)

  find : (n m : ℕ) → Finds n m
  find n zero = inr (λ i lt. absurd (omega arith))
  find n (suc m) =
      ⊎_elim
      (λ here. inl (m, (let lt : m < suc m = omega arith in lt), here))
      (λ no.
      ⊎_elim
      (λ found. inl (found.0, (let lt : found.0 < m = found.1 in omega arith), found.2))
      (λ none.
      inr (λ i lt.
      ⊎_elim (λ low. none i low)
      (λ high.
      let e : i ≡ m = omega arith in
      ap (is_free_number line n) e ∙ no)
      (cases_lt i m)))
      (find n m))
      (yes_or_no (is_free_number line n m))

  -- the parameter with this number among those that are free; where there is none, no parameter
  pub number_is : (n : ℕ) → (but : ℕ) × (but < param_count line + 1)
      × ((i : ℕ) → i < param_count line → is_free_number line n i ≡ eqb i but)
  number_is n =
      ⊎_elim
      (λ found.
      let lt : found.0 < param_count line = found.1 in (
        found.0,
        omega arith,
        λ i below.
            ⊎_elim
            (λ same. ap (is_free_number line n) same ∙ found.2 ∙ sym (eq-eqb i found.0 same))
            (λ apart.
            false_from_ne_true (is_free_number line n i)
            (λ yes.
            ⊎_elim (λ low. not_both n i found.0 low lt yes found.2)
            (λ high.
            let later : found.0 < i = omega arith in
            not_both n found.0 i later below found.2 yes)
            (cases_lt i found.0))
            ∙ sym (other i found.0 apart))
            (cases_eq i found.0),
      ))
      (λ none. (
        param_count line,
        omega arith,
        λ i below.
            let apart : i ≡ param_count line → ⊥ = λ e. absurd (omega arith) in
            none i below ∙ sym (other i (param_count line) apart),
      ))
      (find n (param_count line)) where
        other : (i j : ℕ) → (i ≡ j → ⊥) → eqb i j ≡ false
        other i j apart = false_from_ne_true (eqb i j) (λ e. apart (same_number i j e))

  -- the numbers of a candidate are those of a corner
  pub candidate_corner : (j : ℕ) → (high : Bool) × (but : ℕ) × (but < param_count line + 1)
      × ((i : ℕ) → i < param_count line → candidate_value line j i ≡ corner_number line high but i)
  unfolding candidate_value
  candidate_corner j =
      let out : param_count line < param_count line + 1 = omega arith in
      let low = number_is (j - 1) in
      let top = number_is (j - 1 - free_count line) in
      ⊎_elim
      (λ e0.
      (false, param_count line, out, λ i lt. grind (arith, nat_tests, e0, lt)))
      (λ n0.
      ⊎_elim
      (λ e1. (true, param_count line, out, λ i lt. grind (arith, nat_tests, n0, e1, lt)))
      (λ n1.
      ⊎_elim
      (λ few. (false, low.0, low.1, λ i lt. grind (arith, nat_tests, n0, n1, few, low.2 i lt)))
      (λ many. (true, top.0, top.1, λ i lt. grind (arith, nat_tests, n0, n1, many, top.2 i lt)))
      (yes_or_no (nat_le j (1 + free_count line))))
      (yes_or_no (eqb j 1)))
      (yes_or_no (eqb j 0))
