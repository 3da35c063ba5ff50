-- What a call may answer: a relation of the status, the text on out and the line on err.
use Rattle.std.specs.Prelude.{◌≡◌, ℕ, List, []}
use Rattle.call_answer.specs.{Answers.Answers, declared.done.Done.Done}
use Rattle.call_files.specs.{Messages.message_of, Status.status_of_done}
use Rattle.call_files.specs.{declared.refusal.Refusal.Refusal, declared.stop.Status.Status}
use Rattle.call_files.specs.declared.stop.Status.TheVariants as status
use Rattle.call_files.specs.declared.stop.Stop.TheVariants as stop

abbrev pub CallAnswers : Type 1
CallAnswers = Status → List ℕ → List ℕ → Type 0

-- a file, or the parameter, is refused: nothing on out
abbrev pub refuses : Refusal → CallAnswers
refuses why s text message =
    (s ≡ status.BadInput) × (text ≡ []) × (message ≡ message_of (stop.Refused why))

-- a command is done, which may answer so: nothing on err
abbrev pub done_with : Answers → CallAnswers
done_with allowed s text message =
    (d : Done) × (s ≡ status_of_done d) × allowed d text × (message ≡ [])
