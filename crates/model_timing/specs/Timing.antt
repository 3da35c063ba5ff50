-- One number for each parameter of a line, and steps: from a tick on, a delay has another number.
use Rattle.std.specs.Prelude.{◌≡◌, ◌<◌, ◌≤◌, ◌&&◌, ◌||◌, ◌==◌, ℕ, Bool, true, List, [], ◌∷◌, nat_le}
use Rattle.std.specs.Prelude.{nat_lt, if◌then◌else◌}
use Rattle.std.specs.List.{All, Contains}
use Rattle.model_timing.specs.declared.step.Step.{Step}

-- a timing, field by field
pub record TimingValues : Type 0 where
  pub values : List ℕ
  pub steps : List (Step ℕ)

-- a step stands before another: by its parameter, then by its tick
abbrev pub comes_before : {A : Type 0} → Step A → Step A → Bool
comes_before a b = nat_lt a.param b.param || ((a.param == b.param) && nat_lt a.from b.from)

-- the step is of an earlier parameter, or of this one and not after tick t
abbrev pub is_passed : {A : Type 0} → ℕ → ℕ → Step A → Bool
is_passed param t step = nat_lt step.param param || ((step.param == param) && nat_le step.from t)

-- the steps ascend strictly
abbrev pub ascend : {A : Type 0} → List (Step A) → Bool
ascend [] = true
ascend (s ∷ []) = true
ascend (s ∷ t ∷ rest) = comes_before s t && ascend (t ∷ rest)

-- the steps with one more, in front of the first that it stands before
abbrev pub with_step : {A : Type 0} → Step A → List (Step A) → List (Step A)
with_step step [] = step ∷ []
with_step step (s ∷ rest) =
    if comes_before step s then step ∷ s ∷ rest else s ∷ with_step step rest

-- the number of a parameter at tick t: that of its last step not after t, else its own; the steps
-- ascend, so the last one has the greatest tick
abbrev pub number_at : {A : Type 0} → List (Step A) → ℕ → ℕ → A → A
number_at [] param t own = own
number_at (s ∷ rest) param t own =
    number_at rest param t (if (s.param == param) && nat_le s.from t then s.value else own)

-- the step is one of these and not after tick t, and no step of its parameter that is not after t
-- is later
pub record IsLatest {A : Type 0} (steps : List (Step A)) (step : Step A) (t : ℕ) : Type 0 where
  pub stands : Contains steps step
  pub past : step.from ≤ t
  pub greatest : All (λ s. s.param ≡ step.param → s.from ≤ t → s.from ≤ step.from) steps

-- each step of the parameter is after tick t
abbrev pub HasNoStepBy : {A : Type 0} → List (Step A) → ℕ → ℕ → Type 0
HasNoStepBy steps param t = All (λ s. s.param ≡ param → t < s.from) steps
