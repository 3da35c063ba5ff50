-- The steps so far, with one tick or one channel more.
use Rattle.std.proofs.Common.{◌≡◌, ◌&&◌, ◌==◌, ◌+◌, ◌⊎◌, ℕ, ◌<◌, ◌≤◌, Bool, true, false, cond}
use Rattle.std.proofs.Common.{List, [], ◌∷◌, ◌++◌, get_or, refl, sym, ap, ◌∙◌, subst, arith, ⊎_elim}
use Rattle.std.proofs.Common.{inl, inr, eq-eqb}
use Rattle.std.proofs.lemmas.Bool.{cases_lt, ltb-true, eqb-true, leb-true, le-leb, or_cases}
use Rattle.std.proofs.lemmas.Bool.{and_parts, and_from, cond-true, cond-false, false_from_ne_true}
use Rattle.std.proofs.lemmas.List.Elements.{All-nil, All-cons, All-append}
use Rattle.std.specs.Prelude.{nat_le, nat_lt, IsTrue}
use Rattle.model_line.specs.Parameters.{channel_count, delay_param}
use Rattle.model_line.specs.{declared.line.Line.Line, Laws.SettingsAreCounted}
use Rattle.model_line.specs.DelayOrderLaws.{delays_ascend}
use Rattle.model_timing.specs.declared.step.Step.{Step}
use Rattle.model_timing.specs.Timing.{comes_before, number_at}
use Rattle.model_timing.specs.Inside.{IsStepInside}
use Rattle.model_timing.specs.LatestStepLaws.{before_by_param, before_by_tick, ascend-append}
use Rattle.model_timing.specs.LatestStepLaws.{number_at-own}
use Rattle.judge_settle.specs.corner.Steps.{with_change, IsNumberFrom, AreStepsUpTo}

abbrev at : ℕ → ℕ → Step ℕ
at param t = record { param = param; from = t; value = 0 }

-- what it is to stand before, as facts
before_parts : (s : Step ℕ) (param t : ℕ) → comes_before s (at param t) ≡ true
    → (s.param < param) ⊎ ((s.param ≡ param) × (s.from < t))
before_parts s param t before =
    ⊎_elim
    (λ less. inl (ltb-true s.param param less))
    (λ same.
    let p = and_parts (s.param == param) (nat_lt s.from t) same in
    inr (eqb-true s.param param p.0, ltb-true s.from t p.1))
    (or_cases (nat_lt s.param param) ((s.param == param) && nat_lt s.from t) before)

before_later : (s : Step ℕ) (param t later : ℕ) → t ≤ later → comes_before s (at param t) ≡ true
    → comes_before s (at param later) ≡ true
before_later s param t later more before =
    ⊎_elim (λ less. before_by_param s (at param later) less)
    (λ same. let less : s.from < t = same.1 in
    before_by_tick s (at param later) same.0 (omega arith))
    (before_parts s param t before)

before_next : (s : Step ℕ) (param next t : ℕ) → param < next
    → comes_before s (at param t) ≡ true → comes_before s (at next 1) ≡ true
before_next s param next t more before =
    ⊎_elim (λ less. before_by_param s (at next 1) (omega (arith, less)))
    (λ same. let e : s.param ≡ param = same.0 in
    before_by_param s (at next 1) (omega arith))
    (before_parts s param t before)

-- ---- the number at a tick, with one step more

number_at-more : (steps : List (Step ℕ)) (s : Step ℕ) (param t own : ℕ)
    → number_at (steps ++ s ∷ []) param t own
    ≡ cond ((s.param == param) && nat_le s.from t) s.value (number_at steps param t own)
number_at-more [] s param t own = refl
number_at-more (x ∷ steps) s param t own =
    number_at-more steps s param t
    (cond ((x.param == param) && nat_le x.from t) x.value own)

more_own : (steps : List (Step ℕ)) (s : Step ℕ) (t own : ℕ) → s.from ≤ t
    → number_at (steps ++ s ∷ []) s.param t own ≡ s.value
more_own steps s t own past =
    number_at-more steps s s.param t own
    ∙ cond-true ((s.param == s.param) && nat_le s.from t) s.value
    (number_at steps s.param t own)
    (and_from (s.param == s.param) (nat_le s.from t) (eq-eqb s.param s.param refl)
    (le-leb s.from t past))

more_other : (steps : List (Step ℕ)) (s : Step ℕ) (param t own : ℕ)
    → (s.param ≡ param → t < s.from)
    → number_at (steps ++ s ∷ []) param t own ≡ number_at steps param t own
more_other steps s param t own later =
    number_at-more steps s param t own
    ∙ cond-false ((s.param == param) && nat_le s.from t) s.value (number_at steps param t own)
    (false_from_ne_true ((s.param == param) && nat_le s.from t) (λ e.
    let p = and_parts (s.param == param) (nat_le s.from t) e in
    let past = leb-true s.from t p.1 in
    let late = later (eqb-true s.param param p.0) in
    absurd (omega arith)))

-- ---- the steps so far

module _ (line : Line) (delay : ℕ → ℕ → ℕ) (numbers : List ℕ) where
  abbrev own_of : ℕ → ℕ
  own_of c = get_or numbers (delay_param line c) 0

  pub no_steps : AreStepsUpTo line delay numbers 0 1 []
  no_steps = record {
    ascending = refl;
    before = λ d low high. All-nil (λ s. IsTrue (comes_before s (at (delay_param line d) 1)));
    inside = All-nil (IsStepInside line);
    done = λ d r none late early. absurd (omega (arith, none));
    begun = λ r late early. absurd (omega (arith, late, early));
  }

  module _ (counted : SettingsAreCounted) (c : ℕ) (steps : List (Step ℕ))
      (cn : c < channel_count line) where
    pub next_channel : AreStepsUpTo line delay numbers c line.horizon steps
        → AreStepsUpTo line delay numbers (c + 1) 1 steps
    next_channel so_far = record {
      ascending = so_far.ascending;
      before = λ d low high k e lt.
          before_next (get_or steps k e) (delay_param line c) (delay_param line d) line.horizon
          (delays_ascend counted line c d (omega (arith, low)) high)
          (so_far.before c (omega arith) cn k e lt);
      inside = so_far.inside;
      done = λ d r below late early.
          ⊎_elim (λ less. so_far.done d r less late early)
          (λ more. let same : d ≡ c = omega (arith, below, more) in
          subst (λ (j : ℕ). number_at steps (delay_param line j) r (own_of j) ≡ delay j r)
          (sym same) (so_far.begun r late early))
          (cases_lt d c);
      begun = λ r late early. absurd (omega (arith, late, early));
    }

    -- before the first of its steps a delay has its own number
    pub own_first : AreStepsUpTo line delay numbers c 1 steps
        → IsNumberFrom steps (delay_param line c) (own_of c) 1 (own_of c)
    own_first so_far r late =
        number_at-own steps (delay_param line c) r (own_of c) (λ k e lt same.
        let from_one : 1 ≤ (get_or steps k e).from = (so_far.inside k e lt).late in
        ⊎_elim (λ less. absurd (omega (arith, less, same)))
        (λ here. let early : (get_or steps k e).from < 1 = here.1 in absurd (omega arith))
        (before_parts (get_or steps k e) (delay_param line c) 1
        (so_far.before c (omega arith) cn k e lt)))

    -- a delay that stays has its last number
    pub goes_on : (t until n : ℕ) → t ≤ until → AreStepsUpTo line delay numbers c t steps
        → IsNumberFrom steps (delay_param line c) (own_of c) t n
        → ((r : ℕ) → t ≤ r → r < until → n ≡ delay c r)
        → AreStepsUpTo line delay numbers c until steps
    goes_on t until n later so_far now stays = record {
      ascending = so_far.ascending;
      before = λ d low high k e lt.
          before_later (get_or steps k e) (delay_param line d) t until later
          (so_far.before d low high k e lt);
      inside = so_far.inside;
      done = so_far.done;
      begun = λ r late early.
          ⊎_elim (λ past. so_far.begun r late past) (λ here. now r here ∙ stays r here early)
          (cases_lt r t);
    }

    module _ (t last n : ℕ) (so_far : AreStepsUpTo line delay numbers c t steps)
        (now : IsNumberFrom steps (delay_param line c) (own_of c) t last) (is : n ≡ delay c t)
        (inside : IsStepInside line
        (record { param = delay_param line c; from = t; value = n })) where
      abbrev step : Step ℕ
      step = record { param = delay_param line c; from = t; value = n }

      stays : n ≡ last → AreStepsUpTo line delay numbers c (t + 1) steps
      stays same =
          goes_on t (t + 1) last (omega arith) so_far now (λ r late early.
          let e : r ≡ t = omega (arith, early, late) in
          sym same ∙ is ∙ ap (λ (k : ℕ). delay c k) (sym e))

      stands_before : (d : ℕ) → c ≤ d → d < channel_count line
          → comes_before step (at (delay_param line d) (t + 1)) ≡ true
      stands_before d low high =
          ⊎_elim
          (λ less. before_by_param step (at (delay_param line d) (t + 1))
          (delays_ascend counted line c d less high))
          (λ more. let same : c ≡ d = omega (arith, low, more) in
          before_by_tick step (at (delay_param line d) (t + 1)) (ap (delay_param line) same)
          (omega arith))
          (cases_lt c d)

      moves : AreStepsUpTo line delay numbers c (t + 1) (steps ++ step ∷ [])
      moves = record {
        ascending = ascend-append steps (step ∷ []) so_far.ascending refl
            (λ k e lt. All-cons (λ x. comes_before (get_or steps k e) x ≡ true) step []
            (so_far.before c (omega arith) cn k e lt)
            (All-nil (λ x. comes_before (get_or steps k e) x ≡ true)));
        before = λ d low high.
            let Before : Step ℕ → Type 0 =
            λ s. comes_before s (at (delay_param line d) (t + 1)) ≡ true in
            All-append Before steps (step ∷ [])
            (λ k e lt. before_later (get_or steps k e) (delay_param line d) t (t + 1) (omega arith)
            (so_far.before d low high k e lt))
            (All-cons Before step [] (stands_before d low high) (All-nil Before));
        inside = All-append (IsStepInside line) steps (step ∷ []) so_far.inside
            (All-cons (IsStepInside line) step [] inside (All-nil (IsStepInside line)));
        done = λ d r below late early.
            more_other steps step (delay_param line d) r (own_of d)
            (λ same. let less = delays_ascend counted line d c below cn in
            absurd (omega (arith, same, less)))
            ∙ so_far.done d r below late early;
        begun = λ r late early.
            ⊎_elim
            (λ past. more_other steps step (delay_param line c) r (own_of c) (λ same. past)
            ∙ so_far.begun r late past)
            (λ here. let e : r ≡ t = omega (arith, early, here) in
            more_own steps step r (own_of c) here ∙ is ∙ ap (λ (k : ℕ). delay c k) (sym e))
            (cases_lt r t);
      }

      -- with one tick more
      pub next_tick : AreStepsUpTo line delay numbers c (t + 1)
          (with_change steps (delay_param line c) t last n)
      next_tick = by (n == last) refl where
        by : (b : Bool) → (n == last) ≡ b → AreStepsUpTo line delay numbers c (t + 1)
            (cond b steps (steps ++ step ∷ []))
        by true same = stays (eqb-true n last same)
        by false other = moves

      -- the delay of this tick lasts
      pub lasts : IsNumberFrom (with_change steps (delay_param line c) t last n)
          (delay_param line c) (own_of c) (t + 1) n
      lasts = by (n == last) refl where
        by : (b : Bool) → (n == last) ≡ b → IsNumberFrom (cond b steps (steps ++ step ∷ []))
            (delay_param line c) (own_of c) (t + 1) n
        by true same r late = now r (omega arith) ∙ sym (eqb-true n last same)
        by false other r late = more_own steps step r (own_of c) (omega arith)
