-- Why an obligation fails: the first of those that are asked about, in words or as a picture.
use Rattle.std.specs.Prelude.{◌≡◌, ◌++◌, ℕ, Bool, false, List, Option, codes}
use Rattle.model_line.specs.{declared.line.Line.Line, declared.script.Script.Script}
use Rattle.model_timing.specs.NamedValues.{NamedValues}
use Rattle.draw_shapes.specs.declared.rows.Rows.TheVariants.{Changing}
use Rattle.call_answer.specs.{Answers.Answers, Answers.status_by, declared.done.Done.Done}
use Rattle.call_answer.specs.declared.done.Done.TheVariants.{SomeNo}
use Rattle.call_ask.specs.declared.why.WhyForm.{WhyForm}
use Rattle.call_ask.specs.declared.why.WhyForm.TheVariants.{Words, Diagram}
use Rattle.call_why.specs.Why.{none_text, of_first}
use Rattle.call_study.specs.Pictures.{IsRunText}

-- what a diagram says of itself: what made it, and the words of the reason
abbrev pub said_of : List ℕ → List ℕ → List ℕ
said_of made words = made ++ codes "\n" ++ words

-- the words of a reason; or the timing diagram of the play that they tell, which has them too
abbrev pub IsShown : WhyForm → Line → Script → NamedValues → List ℕ → List ℕ → Type 0
IsShown Words line script named words text = text ≡ words
IsShown (Diagram made) line script named words text =
    IsRunText line script named Changing (said_of made.now words) text

-- status 1, and the reason is shown
abbrev pub shows : WhyForm → Line → Done → List ℕ → Script → NamedValues → List ℕ → Type 0
shows form line status text script named words =
    (status ≡ SomeNo) × IsShown form line script named words text

-- none fails, which is said in words; status 2 where some is open, else 0
abbrev pub says_none : Done → List ℕ → Bool → Type 0
says_none status text unsettled = (status ≡ status_by false unsettled) × (text ≡ none_text unsettled)

abbrev pub why_answer : WhyForm → Line → List Script → Option ℕ → Answers
why_answer form line scripts terminal status text =
    of_first line terminal scripts false (says_none status text) (shows form line status text)
