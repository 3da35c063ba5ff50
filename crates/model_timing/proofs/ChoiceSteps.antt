-- Each choice inside is a timing: its numbers, and a step for each delay and tick.
use Rattle.std.proofs.Common.{◌≡◌, ◌+◌, ◌-◌, ℕ, zero, suc, ◌<◌, ◌≤◌, true, List, [], ◌∷◌}
use Rattle.std.proofs.Common.{◌++◌, get_or, map, refl, sym, ◌∙◌, subst, arith, ⊎_elim}
use Rattle.std.proofs.lemmas.Bool.{cases_lt, and_from}
use Rattle.std.proofs.lemmas.List.{length-map}
use Rattle.std.proofs.lemmas.List.FromFn.{get_or-map-range_with_len, length-range_with_len}
use Rattle.std.proofs.lemmas.List.Elements.{All-nil, All-cons, All-append, Contains-append_left}
use Rattle.std.proofs.lemmas.List.Elements.{Contains-append_right}
use Rattle.std.specs.Prelude.{IsTrue}
use Rattle.std.specs.List.{All, Contains, range_with_len}
use Rattle.model_line.specs.Parameters.{param_count, channel_count, delay_param, declared_ends}
use Rattle.model_line.specs.Laws.{SettingsAreCounted, DelaysAreParameters}
use Rattle.model_line.specs.declared.line.Line.{Line}
use Rattle.model_line.specs.DelayOrderLaws.{delays_ascend}
use Rattle.model_logic.specs.Choice.{Choice, IsIn, IsInside, declared_box}
use Rattle.model_timing.specs.declared.step.Step.{Step}
use Rattle.model_timing.specs.Timing.{TimingValues, comes_before, ascend, IsLatest}
use Rattle.model_timing.specs.Choice.{timing_choice, IsSameChoice}
use Rattle.model_timing.specs.Inside.{IsStepInside, IsTimingInside}
use Rattle.model_timing.specs.LatestStepLaws.{before_by_param, before_by_tick, ascend-append}
use Rattle.model_timing.specs.LatestStepLaws.{number_at-latest}

-- ---- the steps of one delay

module _ (param : ℕ) (value : ℕ → ℕ) where
  abbrev step_of : ℕ → Step ℕ
  step_of t = record { param = param; from = t; value = value t }

  -- one at each of n ticks from t on
  abbrev steps_of : ℕ → ℕ → List (Step ℕ)
  steps_of t zero = []
  steps_of t (suc n) = step_of t ∷ steps_of (t + 1) n

  all_of : (P : Step ℕ → Type 0) (t n : ℕ) → ((r : ℕ) → t ≤ r → r < t + n → P (step_of r))
      → All P (steps_of t n)
  all_of P t zero each = All-nil P
  all_of P t (suc n) each =
      All-cons P (step_of t) (steps_of (t + 1) n) (each t (omega arith) (omega arith))
      (all_of P (t + 1) n (λ r low high. each r (omega arith) (omega arith)))

  contains_of : (t n r : ℕ) → t ≤ r → r < t + n → Contains (steps_of t n) (step_of r)
  contains_of t zero r low high = absurd (omega arith)
  contains_of t (suc n) r low high =
      ⊎_elim
      (λ later. Contains-append_right (step_of t ∷ []) (steps_of (t + 1) n) (step_of r)
      (contains_of (t + 1) n r (omega arith) (omega arith)))
      (λ now. let same : t ≡ r = omega arith in
      subst (λ (k : ℕ). Contains (steps_of t (suc n)) (step_of k)) same
      (0, omega arith, refl))
      (cases_lt t r)

  ascend_of : (t n : ℕ) → ascend (steps_of t n) ≡ true
  ascend_of t zero = refl
  ascend_of t (suc zero) = refl
  ascend_of t (suc (suc n)) =
      and_from (comes_before (step_of t) (step_of (t + 1))) (ascend (steps_of (t + 1) (suc n)))
      (before_by_tick (step_of t) (step_of (t + 1)) refl (omega arith))
      (ascend_of (t + 1) (suc n))

-- ---- the steps of all delays

module _ (line : Line) (choice : Choice) where
  abbrev step_at : ℕ → ℕ → Step ℕ
  step_at c t = step_of (delay_param line c) (choice.delay c) t

  -- at each tick from 1 on
  abbrev channel_steps : ℕ → List (Step ℕ)
  channel_steps c = steps_of (delay_param line c) (choice.delay c) 1 (line.horizon - 1)

  -- of n channels from c on
  abbrev steps_from : ℕ → ℕ → List (Step ℕ)
  steps_from c zero = []
  steps_from c (suc n) = channel_steps c ++ steps_from (c + 1) n

  all_from : (P : Step ℕ → Type 0) (c n : ℕ)
      → ((d t : ℕ) → c ≤ d → d < c + n → 1 ≤ t → t < line.horizon → P (step_at d t))
      → All P (steps_from c n)
  all_from P c zero each = All-nil P
  all_from P c (suc n) each =
      All-append P (channel_steps c) (steps_from (c + 1) n)
      (all_of (delay_param line c) (choice.delay c) P 1 (line.horizon - 1)
      (λ t late early. each c t (omega arith) (omega arith) late (omega arith)))
      (all_from P (c + 1) n
      (λ d t low high late early. each d t (omega arith) (omega arith) late early))

  contains_from : (c n d t : ℕ) → c ≤ d → d < c + n → 1 ≤ t → t < line.horizon
      → Contains (steps_from c n) (step_at d t)
  contains_from c zero d t low high late early = absurd (omega arith)
  contains_from c (suc n) d t low high late early =
      ⊎_elim
      (λ later. Contains-append_right (channel_steps c) (steps_from (c + 1) n) (step_at d t)
      (contains_from (c + 1) n d t (omega arith) (omega arith) late early))
      (λ now. let same : c ≡ d = omega arith in
      subst (λ (k : ℕ). Contains (steps_from c (suc n)) (step_at k t)) same
      (Contains-append_left (channel_steps c) (steps_from (c + 1) n) (step_at c t)
      (contains_of (delay_param line c) (choice.delay c) 1 (line.horizon - 1) t late
      (omega arith))))
      (cases_lt c d)

  ascend_from : (counted : SettingsAreCounted) (c n : ℕ) → c + n ≤ channel_count line → ascend (steps_from c n) ≡ true
  ascend_from counted c zero within = refl
  ascend_from counted c (suc n) within =
      ascend-append (channel_steps c) (steps_from (c + 1) n)
      (ascend_of (delay_param line c) (choice.delay c) 1 (line.horizon - 1))
      (ascend_from counted (c + 1) n (omega arith))
      (all_of (delay_param line c) (choice.delay c)
      (λ x. All (λ y. comes_before x y ≡ true) (steps_from (c + 1) n)) 1 (line.horizon - 1)
      (λ r late early. all_from (λ y. comes_before (step_at c r) y ≡ true) (c + 1) n
      (λ d t low high since before. before_by_param (step_at c r) (step_at d t)
      (delays_ascend counted line c d (omega arith) (omega arith)))))

  -- ---- the timing

  abbrev pub timing_of : TimingValues
  timing_of = record {
    values = map choice.number (range_with_len 0 (param_count line));
    steps = steps_from 0 (channel_count line);
  }

  pub timing_ascends : (counted : SettingsAreCounted) → IsTrue (ascend timing_of.steps)
  timing_ascends counted = ascend_from counted 0 (channel_count line) (omega arith)

  same_number : (i : ℕ) → i < param_count line
      → get_or (map choice.number (range_with_len 0 (param_count line))) i 0 ≡ choice.number i
  same_number i below =
      get_or-map-range_with_len choice.number 0 (param_count line) i i 0 below (omega arith)

  step_inside : DelaysAreParameters → IsInside line choice → (c t : ℕ) → c < channel_count line
      → 1 ≤ t → t < line.horizon → IsStepInside line (step_at c t)
  unfolding declared_box
  step_inside delays inside c t below late early = record {
    delay = delays.told line c below;
    late = late;
    early = early;
    value = inside.delays c t below early;
  }

  pub timing_inside : DelaysAreParameters → IsInside line choice → IsTimingInside line timing_of
  unfolding declared_box
  timing_inside delays inside = record {
    count = length-map (range_with_len 0 (param_count line)) choice.number
        ∙ length-range_with_len 0 (param_count line);
    values = λ i below.
        subst (λ (n : ℕ). IsIn n (declared_ends line i)) (sym (same_number i below))
        (inside.numbers i below);
    steps = all_from (IsStepInside line) 0 (channel_count line)
        (λ d t low high late early. step_inside delays inside d t (omega arith) late early);
  }

  -- the step at a tick is the latest of its delay then
  step_latest : (c t : ℕ) → c < channel_count line → 1 ≤ t → t < line.horizon
      → IsLatest timing_of.steps (step_at c t) t
  step_latest c t below late early = record {
    stands = contains_from 0 (channel_count line) c t (omega arith) (omega arith) late early;
    past = omega arith;
    greatest = λ k d lt same past. past;
  }

  pub timing_same : (counted : SettingsAreCounted) → IsSameChoice line choice (timing_choice line timing_of)
  unfolding timing_choice
  timing_same counted = record {
    numbers = λ i below. sym (same_number i below);
    delays = λ c t below late early.
        sym (number_at-latest timing_of.steps (step_at c t) t
        (get_or timing_of.values (delay_param line c) 0) (timing_ascends counted)
        (step_latest c t below late early));
  }
