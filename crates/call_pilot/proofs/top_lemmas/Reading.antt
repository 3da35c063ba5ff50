-- What is answered once a file is read, or refused.
use Rattle.std.proofs.Common.{◌≡◌, ℕ, List, Option, None, Some, Result, Ok, Err, refl, sym, subst}
use Rattle.std.proofs.Common.{inl}
use Rattle.std.specs.Prelude.{⊤}
use Rattle.std.specs.List.{All}
use Rattle.model_line.specs.{declared.line.Line.Line, declared.script.Script.Script}
use Rattle.file_line.specs.{LineFiles.line_of, Lines.LineValues, Lines.line_values}
use Rattle.base_memory.specs.Gives.{Fails}
use Rattle.base_memory.specs.declared.stopped.Stopped.{Stopped}
use Rattle.base_memory.specs.declared.stopped.Stopped.TheVariants as stopped
use Rattle.file_document.specs.declared.fault.DocumentFault.{DocumentFault}
use Rattle.file_tables.specs.script.Scripts.{scripts_of}
use Rattle.call_engine.specs.Calls.{Calls}
use Rattle.model_timing.specs.Inside.{IsTimingInside}
use Rattle.model_timing.specs.NamedValues.{NamedValues}
use Rattle.file_tables.specs.declared.timing.fault.TimingFault.{TimingFault}
use Rattle.judge_match.specs.{matching.Waves.SeenValues, declared.matching.fault.SeenFault.SeenFault}
use Rattle.call_pilot.specs.top.CallAnswers.{CallAnswers, refuses}
use Rattle.call_files.specs.Said.{of_line, of_parameter, of_record, of_scripts, of_study}
use Rattle.call_files.specs.{FileLaws.timings_read, Said.of_timings}
use Rattle.call_pilot.specs.top.Reading.{work_of_one}
use Rattle.call_files.specs.Stops.{stop_by}
use Rattle.call_files.specs.Study.{IsSaid, ReadsStudy}
use Rattle.call_pilot.specs.{top.Commands.asks, top.Ends.Works}
use Rattle.call_files.specs.declared.refusal.Refusal.{Refusal}
use Rattle.call_answer.specs.{Sinks.SinkView, Study.IsStudy}
use Rattle.call_files.specs.declared.refusal.Refusal.TheVariants as refusal
use Rattle.call_files.specs.{declared.stop.Status.Status, declared.stop.Stop.Stop}
use Rattle.call_files.specs.declared.stop.Stop.TheVariants as stop
use Rattle.call_files.specs.FileLaws.{line_wider, scripts_wider}
use Rattle.call_answer.specs.declared.study.Study.{Study}
use Rattle.call_pilot.specs.declared.top.words.OneFile.{OneFile}
use Rattle.call_pilot.specs.declared.top.words.OneFile.TheVariants as one
use Rattle.call_pilot.proofs.top_lemmas.Fetching.{works_wider}
use Rattle.call_answer.specs.SinkLaws.{keeps_same}

-- ---- what holds of what was read

-- a line that was read
pub line_read : (said : Result LineValues DocumentFault) (l : Line) (refused : Refusal → Type 0)
    (holds : Line → Type 0)
    → said ≡ Ok (line_values l) → holds l → of_line said refused holds
line_read said l refused holds is h = rw is (l, refl, h)

-- a command over a line alone asks nothing
pub asks_of_one : (work : OneFile) (l : Line) (calls : Calls) → asks (work_of_one work l) calls calls
asks_of_one one.Net l calls = tt
asks_of_one one.Line l calls = tt
asks_of_one one.Migrate l calls = tt

-- a line and scripts that were read
pub study_read : (line_bytes scripts_bytes : List ℕ) (study : Study)
    (refused : Refusal → Type 0) (holds : Line → List Script → Type 0)
    → IsStudy study → IsSaid line_bytes scripts_bytes study
    → holds study.line study.scripts.items → of_study line_bytes scripts_bytes refused holds
study_read line_bytes scripts_bytes study refused holds is said h =
    rw said.line_is (study.line, refl, rw said.scripts_are (study.scripts.items, refl, is.fit, h))

-- records of the field that were read
pub record_read : (said : Result (List SeenValues) SeenFault) (records : List SeenValues)
    (refused : Refusal → Type 0) (holds : List SeenValues → Type 0)
    → said ≡ Ok records → holds records → of_record said refused holds
record_read said records refused holds is h = rw is h

-- a command over records asks nothing
pub asks_of_record : (said : Result (List SeenValues) SeenFault)
    → of_record said (λ why. ⊤) (λ records. ⊤)
asks_of_record (Ok records) = tt
asks_of_record (Err why) = tt

-- a command over a parameter asks nothing
pub asks_of_parameter : (said : Option ℕ) → of_parameter said (λ why. ⊤) (λ param. ⊤)
asks_of_parameter (Some param) = tt
asks_of_parameter None = tt

-- a parameter that was found
pub parameter_found : (said : Option ℕ) (param : ℕ) (refused : Refusal → Type 0)
    (holds : ℕ → Type 0) → said ≡ Some param → holds param → of_parameter said refused holds
parameter_found said param refused holds is h = rw is h

-- ---- refusals

-- what the first refusal makes of a reading
study_refused : (line_bytes scripts_bytes : List ℕ) (why : Refusal) (refused : Refusal → Type 0)
    (holds : Line → List Script → Type 0)
    → of_study line_bytes scripts_bytes (λ first. first ≡ why) (λ line scripts. ⊥)
    → refused why → of_study line_bytes scripts_bytes refused holds
study_refused line_bytes scripts_bytes why refused holds first r =
    let here = λ (w : Refusal) (is : w ≡ why). subst refused (sym is) r in
    line_wider (line_of line_bytes) (λ f. f ≡ why) refused
    (λ l. of_scripts l (scripts_of l scripts_bytes) (λ f. f ≡ why) (λ scripts. ⊥))
    (λ l. of_scripts l (scripts_of l scripts_bytes) refused (holds l))
    here
    (λ l h. scripts_wider l (scripts_of l scripts_bytes) (λ f. f ≡ why) refused
    (λ scripts. ⊥) (holds l) here (λ scripts bad. absurd bad) h)
    first

module _ {K : Type 0} (view : K → SinkView) where
  -- want of memory before anything is written
  pub no_memory : (allowed : CallAnswers) (s : K) → Works view allowed s s (Err stop.Memory)
  no_memory allowed s = (refl, inl (keeps_same (view s).written))

  -- a line file that is refused, by a command over it alone
  pub line_stops : (said : Result LineValues DocumentFault) (next : Line → CallAnswers) (s : K)
      (why : Stopped DocumentFault) → Fails why said
      → Works view (λ t text message. of_line said (λ why. refuses why t text message)
      (λ l. next l t text message)) s s (Err (stop_by refusal.Line why))
  line_stops said next s (stopped.Fault fault) f = rw f ((refl, refl, refl), refl)
  line_stops said next s stopped.Memory f = no_memory _ s

  -- a work over the line that was read
  pub works_of_line : (said : Result LineValues DocumentFault) (next : Line → CallAnswers) (l : Line)
      (old new : K) (r : Result Status Stop) → said ≡ Ok (line_values l)
      → Works view (next l) old new r
      → Works view (λ t text message. of_line said (λ why. refuses why t text message)
      (λ l. next l t text message)) old new r
  works_of_line said next l old new r is w =
      works_wider view (next l) (λ t text message. of_line said
      (λ why. refuses why t text message) (λ l. next l t text message)) old new r
      (λ t text message a. line_read said l (λ why. refuses why t text message)
      (λ l. next l t text message) is a) w

  module _ (line_bytes scripts_bytes : List ℕ) (next : Line → List Script → CallAnswers) where
    -- the answers over a line file and a scripts file
    abbrev over : CallAnswers
    over t text message = of_study line_bytes scripts_bytes (λ why. refuses why t text message)
        (λ l scripts. next l scripts t text message)

    -- the line or the scripts are refused, or memory ran out
    pub study_stops : (s : K) (why : Stop) → ReadsStudy line_bytes scripts_bytes (Err why)
        → Works view over s s (Err why)
    study_stops s stop.Usage read = absurd read
    study_stops s (stop.Refused why) read = (
      study_refused line_bytes scripts_bytes why _ _ read (refl, refl, refl),
      refl,
    )
    study_stops s (stop.Store file) read = absurd read
    study_stops s stop.Sink read = absurd read
    study_stops s stop.Memory read = no_memory over s

    -- a work over the line and the scripts that were read
    pub works_of_study : (study : Study) (old new : K) (r : Result Status Stop) → IsStudy study
        → IsSaid line_bytes scripts_bytes study
        → Works view (next study.line study.scripts.items) old new r
        → Works view over old new r
    works_of_study study old new r is said w =
        works_wider view (next study.line study.scripts.items) over old new r
        (λ t text message a. study_read line_bytes scripts_bytes study
        (λ why. refuses why t text message) (λ l scripts. next l scripts t text message)
        is said a) w

  -- a timings file that is refused
  pub timings_stop : (l : Line) (said : Result (List NamedValues) TimingFault)
      (next : List NamedValues → CallAnswers) (s : K) (why : Stopped TimingFault) → Fails why said
      → Works view (λ t text message. of_timings l said (λ why. refuses why t text message)
      (λ timings. next timings t text message)) s s (Err (stop_by refusal.Timings why))
  timings_stop l said next s (stopped.Fault fault) f = rw f ((refl, refl, refl), refl)
  timings_stop l said next s stopped.Memory f = no_memory _ s

  -- a work over the timings that were read
  pub works_of_timings : (l : Line) (said : Result (List NamedValues) TimingFault)
      (next : List NamedValues → CallAnswers) (timings : List NamedValues) (old new : K)
      (r : Result Status Stop) → said ≡ Ok timings
      → All (λ timing. IsTimingInside l timing.timing) timings
      → Works view (next timings) old new r
      → Works view (λ t text message. of_timings l said (λ why. refuses why t text message)
      (λ timings. next timings t text message)) old new r
  works_of_timings l said next timings old new r is inside w =
      works_wider view (next timings) (λ t text message. of_timings l said
      (λ why. refuses why t text message) (λ timings. next timings t text message)) old new r
      (λ t text message a. timings_read l said timings (λ why. refuses why t text message)
      (λ all. next all t text message) is inside a) w

  -- a record file that is refused
  pub record_stops : (said : Result (List SeenValues) SeenFault)
      (next : List SeenValues → CallAnswers) (s : K) (why : Stopped SeenFault) → Fails why said
      → Works view (λ t text message. of_record said (λ why. refuses why t text message)
      (λ records. next records t text message)) s s (Err (stop_by refusal.Record why))
  record_stops said next s (stopped.Fault fault) f = rw f ((refl, refl, refl), refl)
  record_stops said next s stopped.Memory f = no_memory _ s

  -- a work over the records that were read
  pub works_of_record : (said : Result (List SeenValues) SeenFault)
      (next : List SeenValues → CallAnswers) (records : List SeenValues) (old new : K)
      (r : Result Status Stop) → said ≡ Ok records → Works view (next records) old new r
      → Works view (λ t text message. of_record said (λ why. refuses why t text message)
      (λ records. next records t text message)) old new r
  works_of_record said next records old new r is w =
      works_wider view (next records) (λ t text message. of_record said
      (λ why. refuses why t text message) (λ records. next records t text message)) old new r
      (λ t text message a. record_read said records (λ why. refuses why t text message)
      (λ all. next all t text message) is a) w

  -- a name that is no parameter's
  pub parameter_stops : (said : Option ℕ) (next : ℕ → CallAnswers) (s : K) → said ≡ None
      → Works view (λ t text message. of_parameter said (λ why. refuses why t text message)
      (λ param. next param t text message)) s s (Err (stop.Refused refusal.UnknownParameter))
  parameter_stops said next s is = rw is ((refl, refl, refl), refl)

  -- a work over the parameter that was found
  pub works_of_parameter : (said : Option ℕ) (next : ℕ → CallAnswers) (param : ℕ) (old new : K)
      (r : Result Status Stop) → said ≡ Some param → Works view (next param) old new r
      → Works view (λ t text message. of_parameter said (λ why. refuses why t text message)
      (λ param. next param t text message)) old new r
  works_of_parameter said next param old new r is w =
      works_wider view (next param) (λ t text message. of_parameter said
      (λ why. refuses why t text message) (λ param. next param t text message)) old new r
      (λ t text message a. parameter_found said param (λ why. refuses why t text message)
      (λ param. next param t text message) is a) w
