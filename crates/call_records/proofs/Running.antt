-- Courses, one file on.
use Rattle.std.proofs.Common.{◌≡◌, ◌⊎◌, ◌<◌, ◌≤◌, ◌∙◌, ℕ, List, [], Option, Some, IfSome, Result}
use Rattle.std.proofs.Common.{Ok, Err, length, refl, sym, ap, subst, inl, inr}
use Rattle.std.proofs.lemmas.Bool.{le-ltb, lt-ltb}
use Rattle.base_text.specs.{store.CountLaws.same_both, store.Store.SameCounts}
use Rattle.model_line.specs.declared.line.Line.{Line}
use Rattle.file_line.specs.Lines.{LineValues, line_values}
use Rattle.call_records.specs.{Answers.answer_of, Halts.End, Halts.Refuses, Halts.told_of}
use Rattle.call_records.specs.Course.{Course, NamedFile, makes, over, reads, refused}
use Rattle.call_records.specs.{Lines.Refusal, Parts.RecorderFiles, Request.Asked}
use Rattle.call_records.specs.Files.{AllTold, Cause, Fetches, Held, NoneRose, Runs, answers}
use Rattle.call_records.specs.Read.{Gives, IsMemory, Stops, text_seen}
use Rattle.call_records.specs.declared.halt.Halt.{Halt}
use Rattle.call_records.specs.declared.halt.Halt.TheVariants as halt
use Rattle.file_records.specs.map.Maps.{MapValues}
use Rattle.std.specs.declared.alloc.Global.{Global}
use Rattle.std.specs.Prelude.{Vec}

-- a cause from an earlier count
cause_from : (files : Held) (c1 c2 c3 : List ℕ → ℕ) (course : Course) (told : List ℕ)
    → SameCounts c1 c2 → Cause files c2 c3 course told → Cause files c1 c3 course told
cause_from files c1 c2 c3 (refused refusal) told same cause = cause
cause_from files c1 c2 c3 (over asked line m all) told same cause = cause
cause_from files c1 c2 c3 (reads f next) told same cause = elim cause [
  | inl here ↦ inl (here.0, rw (same f.name) at here.1)
  | inr later ↦ inr (
    later.0,
    later.1,
    later.2,
    cause_from files c1 c2 c3 (next later.0) told same later.3,
  )
]
cause_from files c1 c2 c3 (makes values next) told same cause =
    (cause.0, cause.1, cause_from files c1 c2 c3 (next cause.0) told same cause.2)

-- no file's count rose, so there is no cause
pub no_cause : (files : Held) (c1 c2 : List ℕ → ℕ) (course : Course) (told : List ℕ)
    → NoneRose files c1 c2 course → Cause files c1 c2 course told → ⊥
no_cause files c1 c2 (refused refusal) told none cause = cause
no_cause files c1 c2 (over asked line m all) told none cause = cause
no_cause files c1 c2 (reads f next) told none cause = elim cause [
  | inl here ↦ none.0 here.1
  | inr later ↦ no_cause files c1 c2 (next later.0) told (none.1 later.0 later.1 later.2) later.3
]
no_cause files c1 c2 (makes values next) told none cause =
    no_cause files c1 c2 (next cause.0) told (none cause.0 cause.1) cause.2

opened : (o : Option (List ℕ)) (b v : List ℕ) → o ≡ Some b → IfSome o (λ x. x ≡ v) → b ≡ v
opened o b v is agree = rw is at agree

longer : (o : Option (List ℕ)) (b : List ℕ) (limit : ℕ) → o ≡ Some b
    → IfSome o (λ x. limit < length x) → limit < length b
longer o b limit is long = rw is at long

module _ (files : Held) where
  -- ---- ends

  -- a file is refused
  pub runs_refused : (refusal : Refusal) (why : Halt) (c : List ℕ → ℕ) → Refuses refusal why
      → Runs files c c (refused refusal) (Err why)
  runs_refused refusal (halt.Refused v) c tells = ((λ name. refl), (λ told. (tells, refl)))
  runs_refused refusal (halt.Store file) c tells = absurd tells
  runs_refused refusal halt.Sink c tells = absurd tells
  runs_refused refusal halt.Memory c tells = (λ name. refl)

  -- the work over all that was read
  pub runs_over : (asked : Asked) (line : Line) (m : MapValues) (all : List RecorderFiles)
      (r : Result (Vec ℕ Global) Halt) (c : List ℕ → ℕ) → Gives (answer_of asked line m all) r
      → Runs files c c (over asked line m all) (text_seen r)
  runs_over asked line m all (Ok v) c given = ((λ name. refl), (λ told. given))
  runs_over asked line m all (Err (halt.Refused v)) c given = ((λ name. refl), (λ told. given))
  runs_over asked line m all (Err (halt.Store file)) c given = absurd given
  runs_over asked line m all (Err halt.Sink) c given = absurd given
  runs_over asked line m all (Err halt.Memory) c given = (λ name. refl)

  -- want of memory
  pub runs_out : (course : Course) (why : Halt) (c : List ℕ → ℕ) → IsMemory why
      → Runs files c c course (Err why)
  runs_out course (halt.Refused v) c is = absurd is
  runs_out course (halt.Store file) c is = absurd is
  runs_out course halt.Sink c is = absurd is
  runs_out course halt.Memory c is = (λ name. refl)

  -- a reader's fault
  pub reader_stops : {Y F : Type 0} (told : F → Refusal) (said : Result Y F)
      (course : Result Y F → Course) → ((e : F) → course (Err e) ≡ refused (told e))
      → (why : Halt) (c : List ℕ → ℕ) → Stops told said why ⊎ IsMemory why
      → Runs files c c (course said) (Err why)
  reader_stops told said course refusing why c stops = elim stops [
    | inl by ↦ subst (λ k. Runs files c c k (Err why))
        (sym (ap course by.fails ∙ refusing by.fault))
        (runs_refused (told by.fault) why c by.tells)
    | inr is ↦ runs_out (course said) why c is
  ]

  -- ---- one on

  -- a line is made
  pub runs_made : (values : LineValues) (next : Line → Course) (line : Line)
      → line_values line ≡ values → (r : Result (List ℕ) Halt) (c1 c2 : List ℕ → ℕ)
      → Runs files c1 c2 (next line) r → Runs files c1 c2 (makes values next) r
  runs_made values next line is (Ok text) c1 c2 run =
      (run.0, λ told. (line, is, run.1 (told line is)))
  runs_made values next line is (Err (halt.Refused v)) c1 c2 run =
      (run.0, λ told. (line, is, run.1 (told line is)))
  runs_made values next line is (Err (halt.Store file)) c1 c2 run = (line, is, run)
  runs_made values next line is (Err halt.Sink) c1 c2 run = absurd run
  runs_made values next line is (Err halt.Memory) c1 c2 run = run

  module _ (f : NamedFile) (next : List ℕ → Course) where
    -- the file can't be had
    pub runs_stops : (why : Halt) (c1 c2 : List ℕ → ℕ) → Fetches files c1 c2 f (Err why)
        → Runs files c1 c2 (reads f next) (Err why)
    runs_stops (halt.Refused v) c1 c2 fetched = (
      fetched.0,
      λ told. (
        told.0,
        told.1,
        rw (lt-ltb f.limit (length told.0) (longer (files f.name) told.0 f.limit told.1 fetched.2))
            (fetched.1, refl),
      ),
    )
    runs_stops (halt.Store file) c1 c2 fetched = inl (sym fetched.0, fetched.1)
    runs_stops halt.Sink c1 c2 fetched = absurd fetched
    runs_stops halt.Memory c1 c2 fetched = fetched

    module _ (bytes : List ℕ) (short : length bytes ≤ f.limit)
        (agree : IfSome (files f.name) (λ b. b ≡ bytes)) where
      -- what was told of the file are these bytes
      same_bytes : (told : AllTold files (reads f next)) → told.0 ≡ bytes
      same_bytes told = opened (files f.name) told.0 bytes told.1 agree

      told_next : AllTold files (reads f next) → AllTold files (next bytes)
      told_next told =
          let same = same_bytes told in
          subst (λ (b : List ℕ). AllTold files (next b)) same
          (told.2 (subst (λ (b : List ℕ). length b ≤ f.limit) (sym same) short))

      answered : (end : End) (text : List ℕ) (told : AllTold files (reads f next))
          → answers files (next bytes) end text → answers files (reads f next) end text
      answered end text told answer = (
        bytes,
        told.1 ∙ ap (λ (b : List ℕ). Some b) (same_bytes told),
        rw (le-ltb f.limit (length bytes) short) answer,
      )

      -- the file was read
      pub runs_next : (r : Result (List ℕ) Halt) (c1 c2 c3 : List ℕ → ℕ) → SameCounts c1 c2
          → Runs files c2 c3 (next bytes) r → Runs files c1 c3 (reads f next) r
      runs_next (Ok text) c1 c2 c3 same run = (
        same_both c1 c2 c3 same run.0,
        λ told. answered (Ok tt) text told (run.1 (told_next told)),
      )
      runs_next (Err (halt.Refused v)) c1 c2 c3 same run = (
        same_both c1 c2 c3 same run.0,
        λ told. answered (Err (halt.Refused v)) [] told (run.1 (told_next told)),
      )
      runs_next (Err (halt.Store file)) c1 c2 c3 same run =
          inr (bytes, agree, short, cause_from files c1 c2 c3 (next bytes) (told_of file) same run)
      runs_next (Err halt.Sink) c1 c2 c3 same run = absurd run
      runs_next (Err halt.Memory) c1 c2 c3 same run = same_both c1 c2 c3 same run
