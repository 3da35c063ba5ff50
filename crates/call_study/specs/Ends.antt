-- How each layer of the call ends, by cases on its result.
use Rattle.std.specs.Prelude.{◌≡◌, ℕ, List, [], Option, Result, Ok, Err, ⊤}
use Rattle.base_text.specs.store.Store.{SameCounts}
use Rattle.call_answer.specs.{declared.done.Done.Done, declared.said.Said.Said}
use Rattle.call_answer.specs.Sinks.{GrewByAll, SinkView, Put, GrewInPart}
use Rattle.call_files.specs.Files.{AllTold, NamedFile, StoreCause, contents}
use Rattle.call_files.specs.declared.stop.File.{File}
use Rattle.call_files.specs.declared.stop.Stop.TheVariants as stop
use Rattle.base_files.specs.declared.reason.Reason.{Reason}
use Rattle.call_study.specs.Answers.{Answers}
use Rattle.call_work.specs.load.Lines.{HasBytes, IsHaltLine, Tells}
use Rattle.call_work.specs.load.Request.{Request}
use Rattle.call_work.specs.{load.Halts.End, declared.load.halt.Halt.Halt}
use Rattle.call_work.specs.declared.load.halt.Halt.TheVariants as halt

-- a status with a text, or why there is none, is such an answer
abbrev pub Gives : Answers → Result Said Halt → Type 0
Gives allowed (Ok said) = allowed (Ok said.status) said.text.items
Gives allowed (Err (halt.Stopped stop.Usage)) = ⊥
Gives allowed (Err (halt.Stopped (stop.Refused why))) =
    allowed (Err (halt.Stopped (stop.Refused why))) []
Gives allowed (Err (halt.Stopped (stop.Store file))) = ⊥
Gives allowed (Err (halt.Stopped stop.Sink)) = ⊥
Gives allowed (Err (halt.Stopped stop.Memory)) = ⊤
Gives allowed (Err (halt.Denied why)) = allowed (Err (halt.Denied why)) []

-- what may be answered depends on the bytes of these files, and is said only where the store tells
-- them all
abbrev pub over_told : (Result (List (List ℕ)) File → Answers) → (List ℕ → Option (List ℕ))
    → List NamedFile → Answers
over_told next files asked end text = AllTold files asked → next (contents files asked) end text

-- a text that may be answered with some status
abbrev pub WithSomeStatus : Answers → List ℕ → Type 0
WithSomeStatus allowed text = (done : Done) × allowed (Ok done) text

-- how a call ends once its files are fetched, but for the line on err
abbrev pub Answered : {K : Type 0} → (K → SinkView) → Answers → K → K → End → Type 0
Answered view allowed old new (Ok done) = Put (allowed (Ok done)) (view old) (view new) GrewByAll
Answered view allowed old new (Err (halt.Stopped stop.Usage)) = ⊥
Answered view allowed old new (Err (halt.Stopped (stop.Refused why))) =
    (new ≡ old) × allowed (Err (halt.Stopped (stop.Refused why))) []
Answered view allowed old new (Err (halt.Stopped (stop.Store file))) = ⊥
Answered view allowed old new (Err (halt.Stopped stop.Sink)) =
    Put (WithSomeStatus allowed) (view old) (view new) GrewInPart
Answered view allowed old new (Err (halt.Stopped stop.Memory)) = new ≡ old
Answered view allowed old new (Err (halt.Denied why)) =
    (new ≡ old) × allowed (Err (halt.Denied why)) []

-- what err takes of a call that ends so: nothing where it is done, else a line
abbrev pub TellsEnd : Request → HasBytes → Reason → End → SinkView → SinkView → Type 0
TellsEnd request Has reason (Ok done) old new = GrewByAll old new []
TellsEnd request Has reason (Err why) old new =
    Tells (IsHaltLine request Has reason why) old new

-- the whole call but for the line to err
abbrev pub EndsOf : {K : Type 0} → (K → SinkView) → (Result (List (List ℕ)) File → Answers)
    → (List ℕ → Option (List ℕ)) → List NamedFile → (List ℕ → ℕ) → (List ℕ → ℕ) → K → K → End
    → Type 0
EndsOf view next files asked c1 c2 old new (Ok done) =
    SameCounts c1 c2
    × Put (over_told next files asked (Ok done)) (view old) (view new) GrewByAll
EndsOf view next files asked c1 c2 old new (Err (halt.Stopped stop.Usage)) = ⊥
EndsOf view next files asked c1 c2 old new (Err (halt.Stopped (stop.Refused why))) =
    SameCounts c1 c2 × (new ≡ old)
    × over_told next files asked (Err (halt.Stopped (stop.Refused why))) []
EndsOf view next files asked c1 c2 old new (Err (halt.Stopped (stop.Store file))) =
    StoreCause files c1 c2 asked file × (new ≡ old)
EndsOf view next files asked c1 c2 old new (Err (halt.Stopped stop.Sink)) =
    SameCounts c1 c2
    × Put (WithSomeStatus (over_told next files asked)) (view old) (view new) GrewInPart
EndsOf view next files asked c1 c2 old new (Err (halt.Stopped stop.Memory)) =
    SameCounts c1 c2 × (new ≡ old)
EndsOf view next files asked c1 c2 old new (Err (halt.Denied why)) =
    SameCounts c1 c2 × (new ≡ old) × over_told next files asked (Err (halt.Denied why)) []
