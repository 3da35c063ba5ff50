-- The clauses of the call.
use Rattle.std.specs.Prelude.{◌≡◌, ◌⊎◌, ◌<◌, ℕ, List, Option, Ok, Err}
use Rattle.std.specs.Io.KnownBytes.{Appends}
use Rattle.base_files.specs.declared.reason.Reason.{Reason}
use Rattle.base_text.specs.{store.Counts.Rose, store.Sink.GrewByPart, store.Sink.GrewByProper}
use Rattle.call_answer.specs.Sinks.{GrewByAll, SinkView}
use Rattle.call_records.specs.{Course.course_of, Files.AllTold, Files.Cause, Files.NoneRose}
use Rattle.call_records.specs.{Files.answers, Request.Request}
use Rattle.call_records.specs.Halts.{End, IsAnswer, line_of, told_of}
use Rattle.call_records.specs.declared.halt.File.{File}
use Rattle.call_records.specs.declared.halt.Halt.TheVariants as halt

-- what a clause sees of a call: what is asked for, the bytes that the store tells under each name,
-- and before and after the call the store's count of faults of each name, and the two sinks; after it
-- the reason of the store's latest fault
pub record Call : Type 0 where
  pub request : Request
  pub files : List ℕ → Option (List ℕ)
  pub faults_old : List ℕ → ℕ
  pub faults_new : List ℕ → ℕ
  pub reason : Reason
  pub out_old : SinkView
  pub out_new : SinkView
  pub err_old : SinkView
  pub err_new : SinkView

-- the store tells the line, the map, and then each file that the map names
abbrev pub IsTold : Call → Type 0
IsTold call = AllTold call.files (course_of call.request)

-- this may be answered
abbrev pub MayAnswer : Call → End → List ℕ → Type 0
MayAnswer call = answers call.files (course_of call.request)

-- this file is the cause of a store fault: the count of its name rose, and no file before it is longer
-- than its limit
abbrev pub IsCause : Call → File → Type 0
IsCause call file =
    Cause call.files call.faults_old call.faults_new (course_of call.request) (told_of file)

-- out grew by exactly a text that is the answer of a call that ends so
pub record OutIsAnswer (call : Call) (end : End) : Type 0 where
  pub text : List ℕ
  pub is : MayAnswer call end text
  pub out : Appends call.out_old.written call.out_new.written text

-- out grew by a proper front of a text that may be answered
pub record OutIsFront (call : Call) : Type 0 where
  pub text : List ℕ
  pub is : MayAnswer call (Ok tt) text
  pub out : GrewByProper call.out_old.written call.out_new.written text

-- what is promised of a call that ends so
pub record Clauses (call : Call) (end : End) : Type 0 where
  -- Done, or a file refused: the files say so, and out grew by exactly the text.
  pub answered : IsAnswer end → IsTold call → OutIsAnswer call end
  -- A store fault comes only where the count of that file rose, and always where a count of the
  -- store is greater than before.
  pub store_failed : (file : File) → end ≡ Err (halt.Store file) → IsCause call file
  pub store_told : (name : List ℕ) → call.faults_old name < call.faults_new name
      → (file : File) × (end ≡ Err (halt.Store file))
  -- A sink fault comes only where the count of out rose, with a proper front of the answer on out,
  -- and always where the count is greater than before.
  pub sink_failed : end ≡ Err halt.Sink
      → Rose call.out_old.faults call.out_new.faults × (IsTold call → OutIsFront call)
  pub sink_told : call.out_old.faults < call.out_new.faults → end ≡ Err halt.Sink
  -- Where the store tells every file, and neither the count of one of their names nor that of out
  -- rose, the call ends with the answer and its whole text, or memory ran out.
  pub complete : IsTold call
      → NoneRose call.files call.faults_old call.faults_new (course_of call.request)
      → (Rose call.out_old.faults call.out_new.faults → ⊥)
      → (end ≡ Err halt.Memory) ⊎ OutIsAnswer call end
  -- err grew by exactly the line of the end, or its count rose and it grew by a front of the line.
  pub reported : GrewByAll call.err_old call.err_new (line_of call.request call.reason end)
      ⊎ (Rose call.err_old.faults call.err_new.faults
      × GrewByPart call.err_old.written call.err_new.written (line_of call.request call.reason end))
