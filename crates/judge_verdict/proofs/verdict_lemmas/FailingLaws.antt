-- What the bits of a block's lanes tell.
use Rattle.std.proofs.Common.{◌≡◌, ℕ, suc, ◌<◌, Bool, true, false, not, refl, sym, ◌∙◌, arith}
use Rattle.std.specs.Prelude.{Decides}
use Rattle.std.proofs.lemmas.Bool.{not-false, not-true}
use Rattle.model_history.specs.{Elements.some_below, Rails.both}
use Rattle.model_history.specs.TruthLaws.{not_both}
use Rattle.model_line.specs.declared.script.Kind.TheVariants.{Internal, External}
use Rattle.model_line.specs.{declared.line.Line.Line, declared.script.Script.Script}
use Rattle.model_line.specs.declared.script.Kind.{Kind}
use Rattle.model_logic.specs.Histories.{History, MeetsBy, Meets}
use Rattle.judge_verdict.specs.verdict.Rules.{counted_ticks}
use Rattle.model_logic.specs.{Laws.TheRuleIsTested, Rule.is_held}
use Rattle.judge_verdict.specs.verdict.Candidates.{TellsFailing, looked_at}

not_not : (b : Bool) → not (not b) ≡ b
not_not true = refl
not_not false = refl

-- a test's denial tells whether the fact fails
denial_tells : (failing test : Bool) (met : Type 0) → failing ≡ not test → Decides test met
    → TellsFailing failing met
denial_tells failing test met is decides = record {
  fails = λ on m. not_both test (not-true test (sym is ∙ on)) (decides.1 m);
  passes = λ off. decides.0 (not-false test (sym is ∙ off));
}

pub internal_tells : TheRuleIsTested → (deadline horizon : ℕ) (trip : ℕ → Bool) (failing : Bool)
    → failing ≡ not (some_below trip (suc deadline))
    → TellsFailing failing (MeetsBy Internal deadline horizon trip)
internal_tells tested deadline horizon trip failing is =
    denial_tells failing (is_held Internal deadline horizon (λ t. both (trip t)))
    (MeetsBy Internal deadline horizon trip) is
    (tested.held Internal deadline horizon (λ t. both (trip t)))

pub external_tells : TheRuleIsTested → (deadline horizon : ℕ) (trip : ℕ → Bool) (failing : Bool)
    → failing ≡ some_below trip horizon
    → TellsFailing failing (MeetsBy External deadline horizon trip)
external_tells tested deadline horizon trip failing is =
    denial_tells failing (is_held External deadline horizon (λ t. both (trip t)))
    (MeetsBy External deadline horizon trip) (is ∙ sym (not_not (some_below trip horizon)))
    (tested.held External deadline horizon (λ t. both (trip t)))

-- an obligation looks at some ticks alone
meets_by : (kind : Kind) (deadline horizon : ℕ) (a b : ℕ → Bool)
    → ((t : ℕ) → t < counted_ticks kind deadline horizon → a t ≡ b t)
    → MeetsBy kind deadline horizon a → MeetsBy kind deadline horizon b
meets_by Internal deadline horizon a b same (t, past, on) =
    (t, past, sym (same t (omega arith)) ∙ on)
meets_by External deadline horizon a b same never = λ t lt. sym (same t lt) ∙ never t lt

-- histories that are the same meet the same obligations
counted_inside : (kind : Kind) (deadline horizon t : ℕ) → deadline < horizon
    → t < counted_ticks kind deadline horizon → t < horizon
counted_inside Internal deadline horizon t early lt = omega (arith, early, lt)
counted_inside External deadline horizon t early lt = lt

-- so what is told of trips is told of a history that has them at these ticks
pub tells_as : (line : Line) (script : Script) (k : ℕ) (h : History) (trip : ℕ → Bool)
    (failing : Bool) → ((t : ℕ) → t < looked_at line script → trip t ≡ h.trip k t)
    → TellsFailing failing (MeetsBy script.kind script.deadline line.horizon trip)
    → TellsFailing failing (Meets line script k h)
tells_as line script k h trip failing same told = record {
  fails = λ on met. told.fails on
      (meets_by script.kind script.deadline line.horizon (h.trip k) trip
      (λ t lt. sym (same t lt)) met);
  passes = λ off. meets_by script.kind script.deadline line.horizon trip (h.trip k) same
      (told.passes off);
}
