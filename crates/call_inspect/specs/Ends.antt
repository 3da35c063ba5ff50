-- How the call ends but for the line to err, by cases on its result.
use Rattle.std.specs.Prelude.{◌≡◌, ℕ, List, Result, Ok, Err}
use Rattle.base_text.specs.store.Store.{SameCounts}
use Rattle.call_answer.specs.Sinks.{GrewByAll, SinkView, Put, GrewInPart}
use Rattle.call_answer.specs.{declared.done.Done.Done, declared.said.Said.Said}
use Rattle.call_inspect.specs.{Files.AreFetched, Files.Held, Files.IsCause, Halts.End}
use Rattle.call_inspect.specs.Inspected.{IsInspected}
use Rattle.call_inspect.specs.declared.given.GivenFile.{GivenFile}
use Rattle.call_inspect.specs.declared.halt.Halt.{Halt}
use Rattle.call_inspect.specs.declared.halt.Halt.TheVariants as halt

-- this is found in the files of these names, whose bytes the store tells
pub record IsAnswer (files : Held) (names : List (List ℕ)) (status : Done) (text : List ℕ) : Type 0 where
  pub given : List GivenFile
  pub fetched : AreFetched files names given
  pub found : IsInspected given status text

-- with some status
abbrev pub IsSomeAnswer : Held → List (List ℕ) → List ℕ → Type 0
IsSomeAnswer files names text = (status : Done) × IsAnswer files names status text

abbrev pub EndsOf : {K : Type 0} → (K → SinkView) → Held → (List ℕ → ℕ) → (List ℕ → ℕ)
    → List (List ℕ) → K → K → End → Type 0
EndsOf view files c1 c2 names old new (Ok status) =
    SameCounts c1 c2 × Put (IsAnswer files names status) (view old) (view new) GrewByAll
EndsOf view files c1 c2 names old new (Err (halt.Unread i)) = IsCause c1 c2 names i × (new ≡ old)
EndsOf view files c1 c2 names old new (Err halt.Sink) =
    SameCounts c1 c2 × Put (IsSomeAnswer files names) (view old) (view new) GrewInPart
EndsOf view files c1 c2 names old new (Err halt.Memory) = SameCounts c1 c2 × (new ≡ old)

-- the status and the text are the answer, or the call stops before
abbrev pub TextOf : Held → (List ℕ → ℕ) → (List ℕ → ℕ) → List (List ℕ) → Result Said Halt → Type 0
TextOf files c1 c2 names (Ok said) =
    SameCounts c1 c2 × IsAnswer files names said.status said.text.items
TextOf files c1 c2 names (Err (halt.Unread i)) = IsCause c1 c2 names i
TextOf files c1 c2 names (Err halt.Sink) = ⊥
TextOf files c1 c2 names (Err halt.Memory) = SameCounts c1 c2
