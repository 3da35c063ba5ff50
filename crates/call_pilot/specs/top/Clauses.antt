-- The clauses of the top call.
use Rattle.std.specs.Prelude.{◌≡◌, ◌⊎◌, ◌<◌, ℕ, List, [], Option}
use Rattle.std.specs.Io.KnownBytes.{Appends, Keeps}
use Rattle.base_text.specs.{store.Counts.Rose, store.Sink.GrewByProper, store.Sink.GrewByPart}
use Rattle.call_engine.specs.Calls.{Calls}
use Rattle.call_pilot.specs.top.Call.{Asked, Told, answers}
use Rattle.call_files.specs.Files.{StoreCause, NoneRose}
use Rattle.call_pilot.specs.top.Headline.{Headline}
use Rattle.call_files.specs.{Messages.message_of, Status.IsAnswer, Status.IsDone}
use Rattle.call_pilot.specs.{top.Words.Command}
use Rattle.call_pilot.specs.top.Words.{files_named}
use Rattle.call_files.specs.declared.refusal.Refusal.{Refusal}
use Rattle.call_files.specs.{declared.stop.File.File, declared.stop.Status.Status}
use Rattle.call_answer.specs.Sinks.{SinkView, GrewByAll}
use Rattle.call_files.specs.declared.stop.Status.TheVariants as status
use Rattle.call_files.specs.declared.stop.Stop.TheVariants as stop

-- what a clause sees of a call: the command that its words are, the bytes that the store tells under
-- each name, and before and after the call the store's count of faults of each name, what the engine
-- was asked, and the two sinks
pub record Call : Type 0 where
  pub command : Option Command
  pub files : List ℕ → Option (List ℕ)
  pub faults_old : List ℕ → ℕ
  pub faults_new : List ℕ → ℕ
  pub asked_old : Calls
  pub asked_new : Calls
  pub out_old : SinkView
  pub out_new : SinkView
  pub err_old : SinkView
  pub err_new : SinkView

-- the store tells each file of the command
abbrev pub IsTold : Call → Type 0
IsTold call = Told call.command call.files

-- this may be answered
abbrev pub MayAnswer : Call → Status → List ℕ → List ℕ → Type 0
MayAnswer call = answers call.command call.files

-- out grew by exactly a text that is the answer with this status
pub record OutIsAnswer (call : Call) (s : Status) : Type 0 where
  pub text : List ℕ
  pub line : List ℕ
  pub is : MayAnswer call s text line
  pub out : Appends call.out_old.written call.out_new.written text

-- out grew, by such a front of a text that may be answered
pub record OutGrew (call : Call)
    (GrewBy : Option (List ℕ) → Option (List ℕ) → List ℕ → Type 0) : Type 0 where
  pub status : Status
  pub text : List ℕ
  pub line : List ℕ
  pub is : MayAnswer call status text line
  pub out : GrewBy call.out_old.written call.out_new.written text

-- a file of the command is the cause of a store fault: the count of its name rose, and no told file
-- before it in word order is longer than its limit
abbrev pub IsStoreCause : Call → File → Type 0
IsStoreCause call =
    StoreCause call.files call.faults_old call.faults_new (files_named call.command)

-- the line to err: none for status 0 to 3, and that of the status for 4 to 8
abbrev pub IsLine : Call → Status → List ℕ → Type 0
IsLine call status.Usage line = line ≡ message_of stop.Usage
IsLine call status.BadInput line =
    ((why : Refusal) × (line ≡ message_of (stop.Refused why)))
    × (IsTold call → MayAnswer call status.BadInput [] line)
IsLine call status.StoreFault line =
    (file : File) × (line ≡ message_of (stop.Store file)) × IsStoreCause call file
IsLine call status.SinkFault line = line ≡ message_of stop.Sink
IsLine call status.Memory line = line ≡ message_of stop.Memory
IsLine call s line = line ≡ []

-- what is promised of a call that ends with status s
pub record Clauses (call : Call) (s : Status) : Type 0 where
  -- Status 0 to 5: the answer holds with that status, and out grew by exactly its text.
  pub answered : IsAnswer s → IsTold call → OutIsAnswer call s
  -- Status 0 to 3: the engine was asked for the command's work.
  pub asked : IsDone s → Asked call.command call.files call.asked_old call.asked_new
  -- Status 6 comes only where the count of a file of the command rose, and always where a count of
  -- the store is greater than before.
  pub store_failed : s ≡ status.StoreFault → (file : File) × IsStoreCause call file
  pub store_told : (name : List ℕ) → call.faults_old name < call.faults_new name
      → s ≡ status.StoreFault
  -- Status 7 comes only where the count of out rose, with a proper front of a text that may be
  -- answered on out, and always where the count is greater than before.
  pub sink_failed : s ≡ status.SinkFault
      → Rose call.out_old.faults call.out_new.faults × (IsTold call → OutGrew call GrewByProper)
  pub sink_told : call.out_old.faults < call.out_new.faults → s ≡ status.SinkFault
  -- Status 8: out is as it was, or grew by a front of a text that may be answered.
  pub memory : s ≡ status.Memory → IsTold call
      → Keeps call.out_old.written call.out_new.written ⊎ OutGrew call GrewByPart
  -- Where the store tells every file, and neither the count of one of their names nor that of out
  -- rose, the call ends with the answer's status and its whole text, or memory ran out.
  pub complete : IsTold call
      → NoneRose call.faults_old call.faults_new (files_named call.command)
      → (Rose call.out_old.faults call.out_new.faults → ⊥)
      → (s ≡ status.Memory) ⊎ OutIsAnswer call s
  -- What the text says is true of every choice of delays.
  pub headline : Headline call.command call.files call.out_old call.out_new s
  -- err grew by exactly its line, or its count rose and it grew by a front of the line.
  pub line : List ℕ
  pub is_line : IsLine call s line
  pub reported : GrewByAll call.err_old call.err_new line
      ⊎ (Rose call.err_old.faults call.err_new.faults
      × GrewByPart call.err_old.written call.err_new.written line)
