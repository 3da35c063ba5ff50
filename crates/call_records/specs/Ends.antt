-- How the call ends but for the line to err, by cases on its result.
use Rattle.std.specs.Prelude.{◌≡◌, ℕ, List, [], Ok, Err}
use Rattle.base_text.specs.store.Store.{SameCounts}
use Rattle.call_answer.specs.Sinks.{GrewByAll, SinkView, Put, GrewInPart}
use Rattle.call_records.specs.{Course.Course, Files.AllTold, Files.Cause, Files.Held, Files.answers}
use Rattle.call_records.specs.Halts.{End, told_of}
use Rattle.call_records.specs.declared.halt.Halt.TheVariants as halt

-- said where the store tells the files
abbrev pub IsToldText : Held → Course → End → List ℕ → Type 0
IsToldText files course end text = AllTold files course → answers files course end text

abbrev pub EndsOf : {K : Type 0} → (K → SinkView) → Held → (List ℕ → ℕ) → (List ℕ → ℕ) → Course
    → K → K → End → Type 0
EndsOf view files c1 c2 course old new (Ok done) =
    SameCounts c1 c2 × Put (IsToldText files course (Ok tt)) (view old) (view new) GrewByAll
EndsOf view files c1 c2 course old new (Err (halt.Refused line)) =
    SameCounts c1 c2 × (new ≡ old) × IsToldText files course (Err (halt.Refused line)) []
EndsOf view files c1 c2 course old new (Err (halt.Store file)) =
    Cause files c1 c2 course (told_of file) × (new ≡ old)
EndsOf view files c1 c2 course old new (Err halt.Sink) =
    SameCounts c1 c2 × Put (IsToldText files course (Ok tt)) (view old) (view new) GrewInPart
EndsOf view files c1 c2 course old new (Err halt.Memory) = SameCounts c1 c2 × (new ≡ old)
