-- What is found is what is said.
use Rattle.std.proofs.Common.{◌≡◌, ℕ, List, [], ◌∷◌, Option, Some, None, IfSome, subst, sym, inl, inr, ⊎_elim}
use Rattle.std.specs.Prelude.{◌||◌, Bool, false, slice_get}
use Rattle.model_line.specs.{declared.line.Line.Line, declared.script.Script.Script}
use Rattle.model_timing.specs.NamedValues.{NamedValues, values_of}
use Rattle.call_answer.specs.declared.done.Done.{Done}
use Rattle.call_ask.specs.declared.why.WhyForm.{WhyForm}
use Rattle.call_why.specs.declared.why.Found.{Found}
use Rattle.call_why.specs.declared.why.Found.TheVariants.{Told, Quiet}
use Rattle.call_why.specs.Why.{IsFound, IsNone, IsTold, of_first}
use Rattle.call_study.specs.Reasons.{says_none, shows, why_answer}
use Rattle.call_work.specs.declared.load.denial.Denial.{Denial}
use Rattle.call_work.specs.declared.load.halt.Halt.{Halt}
use Rattle.call_work.specs.load.Reading.{denied_by, of_named}

-- what holds of the first reason is what holds of it more widely
first_wider : (line : Line) (terminal : Option ℕ) (scripts : List Script) (unsettled : Bool)
    (N M : Bool → Type 0) (O P : Script → NamedValues → List ℕ → Type 0)
    → ((u : Bool) → N u → M u)
    → ((s : Script) (named : NamedValues) (words : List ℕ) → O s named words → P s named words)
    → of_first line terminal scripts unsettled N O → of_first line terminal scripts unsettled M P
first_wider line terminal [] unsettled N M O P none one is = none unsettled is
first_wider line terminal (script ∷ more) unsettled N M O P none one is =
    ⊎_elim
    (λ told. inl (told.0, (told.1.0, (told.1.1.0, one script told.0 told.1.0 told.1.1.1))))
    (λ quiet. inr (
      quiet.0,
      (
        quiet.1.0,
        first_wider line terminal more (unsettled || quiet.0) N M O P none one quiet.1.1,
      ),
    ))
    is

-- a status and a text that are those of what is found
abbrev pub AreOf : WhyForm → Line → List Script → Done → List ℕ → Found → Type 0
AreOf form line scripts status text (Told place reason) =
    (script : Script) → slice_get scripts place ≡ Some script
    → shows form line status text script (values_of reason.named) reason.text.items
AreOf form line scripts status text (Quiet unsettled) = says_none status text unsettled

module _ (form : WhyForm) (line : Line) (scripts : List Script) (status : Done) (text : List ℕ)
    (found : Found) (are : AreOf form line scripts status text found) where
  of_none : (u : Bool) → IsNone found u → says_none status text u
  of_none u is = subst (AreOf form line scripts status text) is are

  of_told : (script : Script) (named : NamedValues) (words : List ℕ)
      → IsTold scripts found script named words → shows form line status text script named words
  of_told script named words told =
      let here = subst (AreOf form line scripts status text) told.is are in
      rw (told.named_is, told.text_is) (here script told.at)

  pub why_by : (terminal : Option ℕ) → IsFound line scripts terminal found
      → why_answer form line scripts terminal status text
  why_by terminal is =
      first_wider line terminal scripts false (IsNone found) (says_none status text)
      (IsTold scripts found) (shows form line status text) of_none of_told is

module _ {A : Type 0} (IsWhy : Denial → Type 0) (halted : Halt → Type 0) (holds : A → Type 0) where
  -- a name that stands for nothing
  pub none_named : (place : Option A) → None ≡ place → denied_by IsWhy halted
      → of_named place IsWhy halted holds
  none_named place is h = rw (sym is) h

  -- one that stands for something
  pub one_named : (place : Option A) (a : A) → Some a ≡ place → holds a
      → of_named place IsWhy halted holds
  one_named place a is h = rw (sym is) h

-- what holds of a place holds of what is there
pub of_some : {A : Type 0} (P : A → Type 0) (place : Option A) (a : A) → Some a ≡ place
    → IfSome place P → P a
of_some P place a is all = subst (λ (o : Option _). IfSome o P) (sym is) all
