-- What a sink took of a text.
use Rattle.std.specs.Prelude.{◌≡◌, MatchResult, ℕ, List, Option, Result, Ok, Err}
use Rattle.std.specs.Io.KnownBytes.{Appends}
use Rattle.base_text.specs.{store.Counts.Rose, store.Sink.GrewByProper, store.Sink.GrewByPart}
use Rattle.base_text.specs.declared.store.sink.PutFailed.{PutFailed}
use Rattle.base_memory.specs.declared.stopped.Stopped.{Stopped}
use Rattle.base_memory.specs.declared.stopped.Stopped.TheVariants as stopped

-- what is seen of a sink: the bytes that it took, where it tells them, and its count of faults
pub record SinkView : Type 0 where
  pub written : Option (List ℕ)
  pub faults : ℕ

-- what is seen of a sink with these two meanings
abbrev pub sink_view : {K : Type 0} → (K → Option (List ℕ)) → (K → ℕ) → K → SinkView
sink_view written faults k = record { written = written k; faults = faults k }

-- the sink took the whole text
pub record GrewByAll (old new : SinkView) (text : List ℕ) : Type 0 where
  pub taken : Appends old.written new.written text
  pub same : new.faults ≡ old.faults

-- a put of a text: all of it, or a proper front and a counted fault
abbrev pub Puts : {X Y : Type 0} → SinkView → SinkView → List ℕ → Result X Y → Type 0
Puts old new text (Ok x) = GrewByAll old new text
Puts old new text (Err e) =
    Rose old.faults new.faults × GrewByProper old.written new.written text

-- a writer of a text stopped, with a front of the text written
pub record WriteStops (old new : SinkView) (text : List ℕ) (why : Stopped PutFailed) : Type 0 where
  pub sink : (failed : PutFailed) → why ≡ stopped.Fault failed
      → Rose old.faults new.faults × GrewByProper old.written new.written text
  pub memory : why ≡ stopped.Memory
      → (new.faults ≡ old.faults) × GrewByPart old.written new.written text

-- a writer of a text writes all of it, or stops with a front of it written
abbrev pub Writes : {X : Type 0} → SinkView → SinkView → List ℕ → Result X (Stopped PutFailed)
    → Type 0
Writes old new text result =
    MatchResult result (λ _. GrewByAll old new text) (WriteStops old new text)

-- a text is put, so that the sink grew by it in this way: whole, or by a proper front with a fault
-- counted
pub record Put (IsText : List ℕ → Type 0) (old new : SinkView)
    (Grew : SinkView → SinkView → List ℕ → Type 0) : Type 0 where
  pub text : List ℕ
  pub is : IsText text
  pub grew : Grew old new text

abbrev pub GrewInPart : SinkView → SinkView → List ℕ → Type 0
GrewInPart old new text =
    Rose old.faults new.faults × GrewByProper old.written new.written text
