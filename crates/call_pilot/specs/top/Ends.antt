-- How each layer of the call ends: one relation by cases on its result, which names the whole text
-- also where it stopped in the middle.
use Rattle.std.specs.Prelude.{◌≡◌, ◌⊎◌, None, Some, ℕ, List, [], Option, Result, Ok, Err}
use Rattle.std.specs.Io.KnownBytes.{Keeps}
use Rattle.base_text.specs.{store.Counts.Rose, store.Sink.GrewByProper, store.Sink.GrewByPart, store.Store.SameCounts}
use Rattle.call_answer.specs.Sinks.{SinkView, GrewByAll}
use Rattle.call_files.specs.Files.{AllTold, NamedFile, StoreCause, contents}
use Rattle.call_pilot.specs.{top.Call.answer_by, top.CallAnswers.CallAnswers}
use Rattle.call_files.specs.Messages.{message_of}
use Rattle.call_pilot.specs.{top.Reading.over_files, top.Words.Command, top.Words.files_of}
use Rattle.call_files.specs.Status.{IsDone}
use Rattle.call_files.specs.{declared.stop.File.File, declared.stop.Status.Status}
use Rattle.call_files.specs.declared.stop.Status.TheVariants as status
use Rattle.call_files.specs.declared.stop.Stop.{Stop}
use Rattle.call_files.specs.declared.stop.Stop.TheVariants as stop

-- a work that asks no store: its answers are those that are allowed. A sink is as it was, in all
-- that it has, where a file or the parameter is refused.
abbrev pub Works : {K : Type 0} → (K → SinkView) → CallAnswers → K → K → Result Status Stop → Type 0
Works view allowed old new (Ok s) =
    IsDone s × (text : List ℕ) × allowed s text [] × GrewByAll (view old) (view new) text
Works view allowed old new (Err stop.Usage) = ⊥
Works view allowed old new (Err (stop.Refused why)) =
    allowed status.BadInput [] (message_of (stop.Refused why)) × (new ≡ old)
Works view allowed old new (Err (stop.Store file)) = ⊥
Works view allowed old new (Err stop.Sink) =
    Rose (view old).faults (view new).faults
    × (s : Status) × (text : List ℕ) × (line : List ℕ) × allowed s text line
    × GrewByProper (view old).written (view new).written text
Works view allowed old new (Err stop.Memory) =
    ((view new).faults ≡ (view old).faults)
    × (Keeps (view old).written (view new).written
    ⊎ ((s : Status) × (text : List ℕ) × (line : List ℕ) × allowed s text line
    × GrewByPart (view old).written (view new).written text))

-- a work that first fetches these files: what it may answer depends on their bytes in word order,
-- or on the first that is too long, and is said only where the store tells them all
abbrev pub EndsOverFiles : {K : Type 0} → (K → SinkView) → (Result (List (List ℕ)) File → CallAnswers)
    → (List ℕ → Option (List ℕ)) → List NamedFile → (List ℕ → ℕ) → (List ℕ → ℕ)
    → K → K → Result Status Stop → Type 0
EndsOverFiles view next files asked counts_old counts_new old new (Err (stop.Store file)) =
    StoreCause files counts_old counts_new asked file × (new ≡ old)
EndsOverFiles view next files asked counts_old counts_new old new result =
    SameCounts counts_old counts_new
    × Works view (λ s text line. AllTold files asked → next (contents files asked) s text line)
    old new result

-- the whole call but for the line to err, by the command that the words are
abbrev pub EndsOf : {K : Type 0} → (K → SinkView) → Option Command
    → (List ℕ → Option (List ℕ)) → (List ℕ → ℕ) → (List ℕ → ℕ) → K → K → Result Status Stop
    → Type 0
EndsOf view None files counts_old counts_new old new result =
    (result ≡ Err stop.Usage) × SameCounts counts_old counts_new × (new ≡ old)
EndsOf view (Some command) files counts_old counts_new old new result =
    EndsOverFiles view (λ bytes. answer_by (over_files command bytes)) files (files_of command)
    counts_old counts_new old new result
