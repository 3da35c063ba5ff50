-- Over ascending steps the number of a parameter is that of its latest step.
use Rattle.std.proofs.Common.{◌≡◌, ◌&&◌, ◌==◌, ◌⊎◌, ℕ, zero, suc, ◌<◌, ◌≤◌, true, cond, List, []}
use Rattle.std.proofs.Common.{◌∷◌, ◌++◌, length, get_or, refl, sym, ap, subst, inl, inr, ◌∙◌, arith}
use Rattle.std.proofs.Common.{⊎_elim, eq-eqb}
use Rattle.std.proofs.lemmas.Bool.{cases_lt, ltb-true, lt-ltb, eqb-true, leb-true, le-leb, or_cases}
use Rattle.std.proofs.lemmas.Bool.{or_left, or_right, and_parts, and_from, cond-true, cond-false}
use Rattle.std.proofs.lemmas.Bool.{false_from_ne_true}
use Rattle.std.proofs.lemmas.List.Elements.{All-nil, All-cons, All-head, All-tail, All-append}
use Rattle.std.proofs.lemmas.List.Elements.{All-weaker}
use Rattle.std.specs.Prelude.{nat_le, nat_lt}
use Rattle.std.specs.List.{All}
use Rattle.model_timing.specs.declared.step.Step.{Step}
use Rattle.model_timing.specs.Timing.{comes_before, ascend, number_at, IsLatest, HasNoStepBy}

All-both : {X : Type 0} (P Q R : X → Type 0) → ((x : X) → P x → Q x → R x) → (xs : List X)
    → All P xs → All Q xs → All R xs
All-both P Q R both xs all_p all_q k d lt =
    both (get_or xs k d) (all_p k d lt) (all_q k d lt)

module _ {A : Type 0} where
  -- what it is to stand before, as facts
  before_parts : (a b : Step A) → comes_before a b ≡ true
      → (a.param < b.param) ⊎ ((a.param ≡ b.param) × (a.from < b.from))
  before_parts a b before =
      ⊎_elim
      (λ less. inl (ltb-true a.param b.param less))
      (λ same.
      let p = and_parts (a.param == b.param) (nat_lt a.from b.from) same in
      inr (eqb-true a.param b.param p.0, ltb-true a.from b.from p.1))
      (or_cases (nat_lt a.param b.param) ((a.param == b.param) && nat_lt a.from b.from) before)

  pub before_by_param : (a b : Step A) → a.param < b.param → comes_before a b ≡ true
  before_by_param a b less =
      or_left (nat_lt a.param b.param) ((a.param == b.param) && nat_lt a.from b.from)
      (lt-ltb a.param b.param less)

  pub before_by_tick : (a b : Step A) → a.param ≡ b.param → a.from < b.from
      → comes_before a b ≡ true
  before_by_tick a b same less =
      or_right (nat_lt a.param b.param) ((a.param == b.param) && nat_lt a.from b.from)
      (and_from (a.param == b.param) (nat_lt a.from b.from) (eq-eqb a.param b.param same)
      (lt-ltb a.from b.from less))

  before_before : (a b c : Step A) → comes_before a b ≡ true → comes_before b c ≡ true
      → comes_before a c ≡ true
  before_before a b c ab bc =
      ⊎_elim
      (λ p. ⊎_elim (λ q. before_by_param a c (omega arith))
      (λ q. let same = q.0 in before_by_param a c (omega arith)) (before_parts b c bc))
      (λ p. let same = p.0 in let less = p.1 in
      ⊎_elim (λ q. before_by_param a c (omega arith))
      (λ q. let next = q.1 in before_by_tick a c (same ∙ q.0) (omega arith))
      (before_parts b c bc))
      (before_parts a b ab)

  -- ---- ascending steps

  pub ascend-tail : (s : Step A) (steps : List (Step A)) → ascend (s ∷ steps) ≡ true
      → ascend steps ≡ true
  ascend-tail s [] up = refl
  ascend-tail s (x ∷ steps) up = (and_parts (comes_before s x) (ascend (x ∷ steps)) up).1

  -- the first stands before each other
  pub all_after : (s : Step A) (steps : List (Step A)) → ascend (s ∷ steps) ≡ true
      → All (λ x. comes_before s x ≡ true) steps
  all_after s [] up = All-nil (λ x. comes_before s x ≡ true)
  all_after s (y ∷ steps) up =
      let p = and_parts (comes_before s y) (ascend (y ∷ steps)) up in
      All-cons (λ x. comes_before s x ≡ true) y steps p.0
      (All-weaker (λ x. comes_before y x ≡ true) (λ x. comes_before s x ≡ true)
      (λ x yx. before_before s y x p.0 yx) steps (all_after y steps p.1))

  pub ascend-cons : (s : Step A) (steps : List (Step A)) → All (λ x. comes_before s x ≡ true) steps
      → ascend steps ≡ true → ascend (s ∷ steps) ≡ true
  ascend-cons s [] after up = refl
  ascend-cons s (x ∷ steps) after up =
      and_from (comes_before s x) (ascend (x ∷ steps))
      (All-head (λ y. comes_before s y ≡ true) x steps after) up

  -- ascending steps, and then ascending steps that each of them stands before
  pub ascend-append : (front back : List (Step A)) → ascend front ≡ true → ascend back ≡ true
      → All (λ s. All (λ x. comes_before s x ≡ true) back) front → ascend (front ++ back) ≡ true
  ascend-append [] back up_front up_back after = up_back
  ascend-append (s ∷ front) back up_front up_back after =
      let Later : Step A → Type 0 = λ y. All (λ x. comes_before y x ≡ true) back in
      ascend-cons s (front ++ back)
      (All-append (λ x. comes_before s x ≡ true) front back (all_after s front up_front)
      (All-head Later s front after))
      (ascend-append front back (ascend-tail s front up_front) up_back
      (All-tail Later s front after))

  -- ---- the number at a tick

  -- a step of another parameter, or one after t, has no say
  no_say : (s : Step A) (param t : ℕ) (own : A) → (s.param ≡ param → t < s.from)
      → cond ((s.param == param) && nat_le s.from t) s.value own ≡ own
  no_say s param t own later =
      cond-false ((s.param == param) && nat_le s.from t) s.value own
      (false_from_ne_true ((s.param == param) && nat_le s.from t) (λ e.
      let p = and_parts (s.param == param) (nat_le s.from t) e in
      let past = leb-true s.from t p.1 in
      let late = later (eqb-true s.param param p.0) in
      absurd (omega arith)))

  -- where no step has a say
  pub number_at-own : (steps : List (Step A)) (param t : ℕ) (own : A) → HasNoStepBy steps param t
      → number_at steps param t own ≡ own
  number_at-own [] param t own none = refl
  number_at-own (s ∷ steps) param t own none =
      let Late : Step A → Type 0 = λ x. x.param ≡ param → t < x.from in
      ap (λ v. number_at steps param t v) (no_say s param t own (All-head Late s steps none))
      ∙ number_at-own steps param t own (All-tail Late s steps none)

  -- the steps behind the latest are after t
  none_behind : (s : Step A) (steps : List (Step A)) (t : ℕ) → ascend (s ∷ steps) ≡ true
      → All (λ x. x.param ≡ s.param → x.from ≤ t → x.from ≤ s.from) steps
      → HasNoStepBy steps s.param t
  none_behind s steps t up greatest =
      All-both (λ x. comes_before s x ≡ true)
      (λ x. x.param ≡ s.param → x.from ≤ t → x.from ≤ s.from)
      (λ x. x.param ≡ s.param → t < x.from)
      (λ x after least same.
      ⊎_elim (λ less. absurd (omega arith))
      (λ equal. let later = equal.1 in
      ⊎_elim (λ late. late) (λ past. let back = least same past in absurd (omega arith))
      (cases_lt t x.from))
      (before_parts s x after))
      steps (all_after s steps up) greatest

  latest_at : (steps : List (Step A)) (k : ℕ) (step : Step A) (t : ℕ) (own : A)
      → k < length steps → get_or steps k step ≡ step → ascend steps ≡ true → step.from ≤ t
      → All (λ s. s.param ≡ step.param → s.from ≤ t → s.from ≤ step.from) steps
      → number_at steps step.param t own ≡ step.value
  latest_at [] k step t own lt here up past greatest = absurd (omega arith)
  latest_at (s ∷ steps) zero step t own lt here up past greatest =
      subst (λ (x : Step A). number_at (s ∷ steps) x.param t own ≡ x.value) here
      (first (subst (λ (x : Step A). x.from ≤ t) (sym here) past)
      (subst (λ (x : Step A). All (λ y. y.param ≡ x.param → y.from ≤ t → y.from ≤ x.from) steps)
      (sym here)
      (All-tail (λ y. y.param ≡ step.param → y.from ≤ t → y.from ≤ step.from) s steps greatest)))
    where
      first : s.from ≤ t → All (λ x. x.param ≡ s.param → x.from ≤ t → x.from ≤ s.from) steps
          → number_at (s ∷ steps) s.param t own ≡ s.value
      first past greatest =
          ap (λ v. number_at steps s.param t v)
          (cond-true ((s.param == s.param) && nat_le s.from t) s.value own
          (and_from (s.param == s.param) (nat_le s.from t) (eq-eqb s.param s.param refl)
          (le-leb s.from t past)))
          ∙ number_at-own steps s.param t s.value (none_behind s steps t up greatest)
  latest_at (s ∷ steps) (suc k) step t own lt here up past greatest =
      latest_at steps k step t (cond ((s.param == step.param) && nat_le s.from t) s.value own)
      (omega arith) here (ascend-tail s steps up) past
      (All-tail (λ x. x.param ≡ step.param → x.from ≤ t → x.from ≤ step.from) s steps greatest)

  -- that of the latest step
  pub number_at-latest : (steps : List (Step A)) (step : Step A) (t : ℕ) (own : A)
      → ascend steps ≡ true → IsLatest steps step t
      → number_at steps step.param t own ≡ step.value
  number_at-latest steps step t own up latest =
      let place = latest.stands in
      latest_at steps place.0 step t own place.1 place.2 up latest.past latest.greatest
