-- The clauses of the call.
use Rattle.std.specs.Prelude.{◌≡◌, ◌⊎◌, ◌<◌, ℕ, List, Ok, Err}
use Rattle.std.specs.Io.KnownBytes.{Appends}
use Rattle.base_files.specs.declared.reason.Reason.{Reason}
use Rattle.base_text.specs.{store.Counts.Rose, store.Sink.GrewByPart, store.Sink.GrewByProper}
use Rattle.call_answer.specs.Sinks.{GrewByAll, SinkView}
use Rattle.call_answer.specs.declared.done.Done.{Done}
use Rattle.call_inspect.specs.{Ends.IsAnswer, Ends.IsSomeAnswer, Halts.End, Halts.line_of}
use Rattle.call_inspect.specs.Files.{Held, IsCause, NoneRose}
use Rattle.call_inspect.specs.declared.halt.Halt.TheVariants as halt

-- what a clause sees of a call: the names of its files, the bytes that the store tells under each name,
-- and before and after the call the store's count of faults of each name, and the two sinks; after it
-- the reason of the store's latest fault
pub record Call : Type 0 where
  pub names : List (List ℕ)
  pub files : Held
  pub faults_old : List ℕ → ℕ
  pub faults_new : List ℕ → ℕ
  pub reason : Reason
  pub out_old : SinkView
  pub out_new : SinkView
  pub err_old : SinkView
  pub err_new : SinkView

-- out grew by exactly a text that is the answer with this status
pub record OutIsAnswer (call : Call) (status : Done) : Type 0 where
  pub text : List ℕ
  pub is : IsAnswer call.files call.names status text
  pub out : Appends call.out_old.written call.out_new.written text

-- out grew by a proper front of a text that may be answered
pub record OutIsFront (call : Call) : Type 0 where
  pub text : List ℕ
  pub is : IsSomeAnswer call.files call.names text
  pub out : GrewByProper call.out_old.written call.out_new.written text

-- what is promised of a call that ends so
pub record Clauses (call : Call) (end : End) : Type 0 where
  -- Done: the status and the text are the answer over the files, and out grew by exactly the text.
  pub answered : (status : Done) → end ≡ Ok status → OutIsAnswer call status
  -- A store fault comes only where the count of that file rose, and always where a count of the
  -- store is greater than before.
  pub store_failed : (i : ℕ) → end ≡ Err (halt.Unread i)
      → IsCause call.faults_old call.faults_new call.names i
  pub store_told : (name : List ℕ) → call.faults_old name < call.faults_new name
      → (i : ℕ) × (end ≡ Err (halt.Unread i))
  -- A sink fault comes only where the count of out rose, with a proper front of the answer on out,
  -- and always where the count is greater than before.
  pub sink_failed : end ≡ Err halt.Sink
      → Rose call.out_old.faults call.out_new.faults × OutIsFront call
  pub sink_told : call.out_old.faults < call.out_new.faults → end ≡ Err halt.Sink
  -- Where neither the count of one of the names nor that of out rose, the call ends with the answer,
  -- or memory ran out.
  pub complete : NoneRose call.faults_old call.faults_new call.names
      → (Rose call.out_old.faults call.out_new.faults → ⊥)
      → (end ≡ Err halt.Memory) ⊎ ((status : Done) × OutIsAnswer call status × (end ≡ Ok status))
  -- err grew by exactly the line of the end, or its count rose and it grew by a front of the line.
  pub reported : GrewByAll call.err_old call.err_new (line_of call.names call.reason end)
      ⊎ (Rose call.err_old.faults call.err_new.faults
      × GrewByPart call.err_old.written call.err_new.written (line_of call.names call.reason end))
