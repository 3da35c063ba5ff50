-- The ticks of steps, one step after another.
use Rattle.std.proofs.Common.{◌≡◌, ◌<◌, ◌∷◌, [], ℕ, zero, suc, Bool, true, false, List, arith}
use Rattle.std.proofs.Common.{inl, inr, refl, subst, sym, eq-eqb}
use Rattle.std.specs.Prelude.{◌==◌, ◌&&◌, ◌↔◌, nat_lt, if◌then◌else◌}
use Rattle.std.proofs.lemmas.Bool.{eqb-true, lt-ltb, ltb-true}
use Rattle.std.proofs.lemmas.List.Elements.{Contains-append_cases, Contains-append_left}
use Rattle.std.proofs.lemmas.List.Elements.{Contains-append_right}
use Rattle.std.specs.List.{Contains, flat_map}
use Rattle.model_line.specs.declared.line.Line.{Line}
use Rattle.model_line.specs.Parameters.{channel_count, delay_param}
use Rattle.model_timing.specs.declared.step.Step.{Step}
use Rattle.model_plain.specs.declared.role.Role.TheVariants.{Received}
use Rattle.draw_run.specs.{diagram.DelaySteps.marks_of, diagram.DelaySteps.tick_of_step}
use Rattle.draw_run.specs.diagram.DelayStepLaws.{SomeBegins}
use Rattle.draw_run.specs.declared.diagram.trace.Trace.TheVariants.{Logic}

none : {X : Type 0} (x : X) → Contains [] x → ⊥
none x c = let less = c.1 in omega arith

the_one : {X : Type 0} (x y : X) → Contains (x ∷ []) y → x ≡ y
the_one x y (zero, less, is) = is
the_one x y (suc k, less, is) = absurd (omega (arith, less))

first : {X : Type 0} (x : X) (xs : List X) → Contains (x ∷ xs) x
first x xs = (0, omega arith, refl)

module _ (param horizon t : ℕ) where
  abbrev ticks : List (Step ℕ) → List ℕ
  ticks steps = flat_map (tick_of_step param horizon) steps

  later : (s : Step ℕ) (rest : List (Step ℕ)) → SomeBegins rest param t
      → SomeBegins (s ∷ rest) param t
  later s rest b = (b.0, Contains-append_right (s ∷ []) rest b.0 b.1, b.2, b.3)

  by_test : (s : Step ℕ) (rest : List (Step ℕ)) (is below : Bool) → (s.param == param) ≡ is
      → nat_lt s.from horizon ≡ below → Contains (if is && below then s.from ∷ [] else []) t
      → (t < horizon) × SomeBegins (s ∷ rest) param t
  by_test s rest true true e b c =
      let at : s.from ≡ t = the_one s.from t c in (
        subst (λ (n : ℕ). n < horizon) at (ltb-true s.from horizon b),
        (s, first s rest, eqb-true s.param param e, at),
      )
  by_test s rest true false e b c = absurd (none t c)
  by_test s rest false below e b c = absurd (none t c)

  begins : (steps : List (Step ℕ)) → Contains (ticks steps) t
      → (t < horizon) × SomeBegins steps param t
  begins [] c = absurd (none t c)
  begins (s ∷ rest) c =
      elim (Contains-append_cases (tick_of_step param horizon s) (ticks rest) t c) [
        | inl here ↦ by_test s rest (s.param == param) (nat_lt s.from horizon) refl refl here
        | inr more ↦ (let b = begins rest more in (b.0, later s rest b.1))
      ]

  here : (s : Step ℕ) → t < horizon → s.param ≡ param → s.from ≡ t
      → Contains (tick_of_step param horizon s) t
  here s less is at =
      rw (eq-eqb s.param param is)
      (rw (lt-ltb s.from horizon (subst (λ (n : ℕ). n < horizon) (sym at) less))
      (0, omega arith, at))

  is_tick : (steps : List (Step ℕ)) → t < horizon → SomeBegins steps param t
      → Contains (ticks steps) t
  is_tick [] less b = absurd (none b.0 b.1)
  is_tick (s ∷ rest) less b =
      elim (Contains-append_cases (s ∷ []) rest b.0 b.1) [
        | inl one ↦ (
            let same : s ≡ b.0 = the_one s b.0 one in
            Contains-append_left (tick_of_step param horizon s) (ticks rest) t
            (here s less (subst (λ (x : Step ℕ). x.param ≡ param) (sym same) b.2)
            (subst (λ (x : Step ℕ). x.from ≡ t) (sym same) b.3)))
        | inr more ↦ Contains-append_right (tick_of_step param horizon s) (ticks rest) t
            (is_tick rest less (b.0, more, b.2, b.3))
      ]

pub marks_are_steps : (line : Line) (steps : List (Step ℕ)) (c gate t : ℕ)
    → c < channel_count line
    → Contains (marks_of line steps (Logic (Received c) gate)) t
    ↔ ((t < line.horizon) × SomeBegins steps (delay_param line c) t)
marks_are_steps line steps c gate t there =
    rw (lt-ltb c (channel_count line) there) (
      begins (delay_param line c) line.horizon t steps,
      λ both. is_tick (delay_param line c) line.horizon t steps both.0 both.1,
    )
