-- The choice of a timing inside is inside.
use Rattle.std.proofs.Common.{◌&&◌, ◌==◌, ℕ, Bool, cond, List, [], ◌∷◌, get_or, subst, arith, inl}
use Rattle.std.proofs.Common.{inr}
use Rattle.std.proofs.lemmas.Bool.{cases_Bool, cases_lt, eqb-true, and_parts}
use Rattle.std.proofs.lemmas.List.{length-map, get_or_past}
use Rattle.std.proofs.lemmas.List.Elements.{All-head, All-tail}
use Rattle.std.specs.Prelude.{nat_le}
use Rattle.std.specs.List.{All}
use Rattle.model_logic.specs.Choice.{IsIn, IsInside, declared_box}
use Rattle.model_line.specs.Parameters.{param_count, delay_param, declared_ends}
use Rattle.model_line.specs.Intervals.{leasts, greatests}
use Rattle.model_line.specs.declared.line.Line.{Line}
use Rattle.model_timing.specs.{declared.step.Step.Step, Inside.IsStepInside, Inside.IsTimingInside}
use Rattle.model_timing.specs.{Timing.TimingValues, Timing.number_at, Choice.timing_choice}

-- whether the step has a say in the parameter's number at t
abbrev says : Step ℕ → ℕ → ℕ → Bool
says s param t = (s.param == param) && nat_le s.from t

step_said : (line : Line) (s : Step ℕ) (param t own : ℕ) → IsStepInside line s
    → IsIn own (declared_ends line param)
    → IsIn (cond (says s param t) s.value own) (declared_ends line param)
step_said line s param t own inside here = elim (cases_Bool (says s param t)) [
  | inl said ↦
      let p = and_parts (s.param == param) (nat_le s.from t) said in
      let same = eqb-true s.param param p.0 in
      rw said (subst (λ (i : ℕ). IsIn s.value (declared_ends line i)) same inside.value)
  | inr silent ↦ rw silent here
]

number_inside : (line : Line) (steps : List (Step ℕ)) (param t own : ℕ)
    → All (IsStepInside line) steps → IsIn own (declared_ends line param)
    → IsIn (number_at steps param t own) (declared_ends line param)
number_inside line [] param t own all here = here
number_inside line (s ∷ steps) param t own all here =
    number_inside line steps param t (cond (says s param t) s.value own)
    (All-tail (IsStepInside line) s steps all)
    (step_said line s param t own (All-head (IsStepInside line) s steps all) here)

-- also where there is no such parameter
own_inside : (line : Line) (timing : TimingValues) (i : ℕ) → IsTimingInside line timing
    → IsIn (get_or timing.values i 0) (declared_ends line i)
own_inside line timing i inside = elim (cases_lt i (param_count line)) [
  | inl below ↦ inside.values i below
  | inr past ↦
      let count = inside.count in
      let own = get_or_past timing.values i 0 (omega arith) in
      let least = get_or_past (leasts line.params.items) i 0
      (omega (arith, length-map line.params.items (λ p. p.least))) in
      let greatest = get_or_past (greatests line.params.items) i 0
      (omega (arith, length-map line.params.items (λ p. p.greatest))) in
      record { least = omega arith; greatest = omega arith }
]

pub choice_inside : (line : Line) (timing : TimingValues) → IsTimingInside line timing
    → IsInside line (timing_choice line timing)
unfolding declared_box timing_choice
choice_inside line timing inside = record {
  numbers = λ i below. inside.values i below;
  delays = λ c t below early.
      number_inside line timing.steps (delay_param line c) t
      (get_or timing.values (delay_param line c) 0) inside.steps
      (own_inside line timing (delay_param line c) inside);
}
