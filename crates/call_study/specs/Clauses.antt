-- The clauses of the top call.
use Rattle.std.specs.Prelude.{◌≡◌, ◌⊎◌, ◌<◌, ℕ, List, Option, Err, IfSome}
use Rattle.std.specs.Io.KnownBytes.{Appends}
use Rattle.base_files.specs.declared.reason.Reason.{Reason}
use Rattle.base_text.specs.{store.Counts.Rose, store.Sink.GrewByProper}
use Rattle.call_answer.specs.Sinks.{SinkView}
use Rattle.call_files.specs.Files.{AllTold, NoneRose, StoreCause}
use Rattle.call_files.specs.declared.stop.File.{File}
use Rattle.call_files.specs.declared.stop.Stop.TheVariants as stop
use Rattle.call_work.specs.declared.load.halt.Halt.TheVariants as halt
use Rattle.call_study.specs.{Answers.answers, Ends.TellsEnd, Ends.WithSomeStatus}
use Rattle.call_work.specs.{load.Halts.End, load.Halts.IsAnswer}
use Rattle.call_work.specs.{load.Fetched.name_at, load.Lines.HasBytes}
use Rattle.call_work.specs.load.Request.{Request, files_of}

-- what a clause sees of a call: what is asked for, the bytes that the store tells under each name,
-- and before and after the call the store's count of faults of each name, and the two sinks
pub record Call : Type 0 where
  pub request : Request
  pub files : List ℕ → Option (List ℕ)
  pub faults_old : List ℕ → ℕ
  pub faults_new : List ℕ → ℕ
  pub reason : Reason
  pub out_old : SinkView
  pub out_new : SinkView
  pub err_old : SinkView
  pub err_new : SinkView

-- the store tells each file that is asked for
abbrev pub IsTold : Call → Type 0
IsTold call = AllTold call.files (files_of call.request)

-- this may be answered
abbrev pub MayAnswer : Call → End → List ℕ → Type 0
MayAnswer call = answers call.request call.files

-- this file is the cause of a store fault: the count of its name rose, and no told file before it
-- in word order is longer than its limit
abbrev pub IsCause : Call → File → Type 0
IsCause call = StoreCause call.files call.faults_old call.faults_new (files_of call.request)

-- this file has these bytes, where the store tells them
abbrev pub TellsBytes : Call → HasBytes
TellsBytes call file bytes =
    IfSome (name_at call.request file) (λ name. IfSome (call.files name) (λ told. told ≡ bytes))

-- out grew by exactly a text that is the answer of a call that ends so
pub record OutIsAnswer (call : Call) (end : End) : Type 0 where
  pub text : List ℕ
  pub is : MayAnswer call end text
  pub out : Appends call.out_old.written call.out_new.written text

-- out grew by a proper front of a text that may be answered
pub record OutIsFront (call : Call) : Type 0 where
  pub text : List ℕ
  pub is : WithSomeStatus (MayAnswer call) text
  pub out : GrewByProper call.out_old.written call.out_new.written text

-- what is promised of a call that ends so
pub record Clauses (call : Call) (end : End) : Type 0 where
  -- Done, a file refused, or a name unknown: the files say so, and out grew by exactly the text.
  pub answered : IsAnswer end → IsTold call → OutIsAnswer call end
  -- A store fault comes only where the count of that file rose, and always where a count of the
  -- store is greater than before.
  pub store_failed : (file : File) → end ≡ Err (halt.Stopped (stop.Store file)) → IsCause call file
  pub store_told : (name : List ℕ) → call.faults_old name < call.faults_new name
      → (file : File) × (end ≡ Err (halt.Stopped (stop.Store file)))
  -- A sink fault comes only where the count of out rose, with a proper front of the answer on out,
  -- and always where the count is greater than before.
  pub sink_failed : end ≡ Err (halt.Stopped stop.Sink)
      → Rose call.out_old.faults call.out_new.faults × (IsTold call → OutIsFront call)
  pub sink_told : call.out_old.faults < call.out_new.faults → end ≡ Err (halt.Stopped stop.Sink)
  -- Where the store tells every file, and neither the count of one of their names nor that of out
  -- rose, the call ends with the answer and its whole text, or memory ran out.
  pub complete : IsTold call → NoneRose call.faults_old call.faults_new (files_of call.request)
      → (Rose call.out_old.faults call.out_new.faults → ⊥)
      → (end ≡ Err (halt.Stopped stop.Memory)) ⊎ OutIsAnswer call end
  -- err grew by exactly the line of the end, which names the file and the place, or the name that is
  -- not there; or its count rose and it grew by a front of the line.
  pub reported : TellsEnd call.request (TellsBytes call) call.reason end call.err_old call.err_new
