-- What a command may answer: a relation of its status and its text.
use Rattle.std.specs.Prelude.{◌≡◌, ℕ, Bool, List, IfOk, Result, if◌then◌else◌}
use Rattle.call_answer.specs.{Sinks.SinkView, Sinks.Writes, declared.done.Done.Done}
use Rattle.call_answer.specs.declared.done.Done.TheVariants as done
use Rattle.base_text.specs.declared.store.sink.PutFailed.{PutFailed}
use Rattle.base_memory.specs.declared.stopped.Stopped.{Stopped}
use Rattle.call_answer.specs.{declared.said.Said.Said}

abbrev pub Answers : Type 1
Answers = Done → List ℕ → Type 0

-- all is well, and such a text
abbrev pub prints : (List ℕ → Type 0) → Answers
prints IsText s text = (s ≡ done.Good) × IsText text

-- 1 where something fails; else 2 where something is open; else 0
abbrev pub status_by : Bool → Bool → Done
status_by some_fails some_open =
    if some_fails then done.SomeNo
    else if some_open then done.SomeUndecided
    else done.Good

-- what is said, before it is written, is an answer
abbrev pub Says : Answers → Said → Type 0
Says allowed said = allowed said.status said.text.items

-- an answer is written: its whole text, with its status, or a front of the text
pub record WritesAnswer (allowed : Answers) (old new : SinkView)
    (result : Result Done (Stopped PutFailed)) : Type 0 where
  pub status : Done
  pub text : List ℕ
  pub is : allowed status text
  pub writes : Writes old new text result
  pub gives : IfOk result (λ s. s ≡ status)
