-- What was put on out, and what the files say.
use Rattle.call_files.specs.declared.refusal.Refusal.TheVariants as refusal
use Rattle.call_files.specs.declared.stop.File.TheVariants as file
use Rattle.call_files.specs.declared.stop.Stop.TheVariants as stop
use Rattle.std.proofs.Common.{◌≡◌, ◌⊎◌, ℕ, Bool, true, false, cond, List, [], ◌∷◌, ◌++◌, Option}
use Rattle.std.proofs.Common.{None, Some, Result, Ok, Err, drop, take, length, map, refl, sym, ◌∙◌}
use Rattle.std.proofs.Common.{ap, subst, inl, inr, ⊎_elim}
use Rattle.call_pilot.specs.{top.Reading.third_file, top.Call.answers, top.CallAnswers.CallAnswers}
use Rattle.call_pilot.specs.{top.CallAnswers.done_with, top.CallAnswers.refuses, top.Commands.answer}
use Rattle.call_pilot.specs.top.Ends.{EndsOf}
use Rattle.call_files.specs.Files.{AllTold, in_front, limit_of}
use Rattle.call_files.specs.Said.{of_line, of_scripts, of_study}
use Rattle.call_pilot.specs.top.Reading.{over_files}
use Rattle.call_files.specs.declared.refusal.Refusal.{Refusal}
use Rattle.call_pilot.specs.top.Words.{own_file, Command, TwoFiles, files_of, three_files, two_files}
use Rattle.call_pilot.specs.declared.top.words.ThreeFiles.{ThreeFiles}
use Rattle.std.proofs.lemmas.List.{append-nil, append_cancel_left, take-append-drop}
use Rattle.std.proofs.lemmas.Option.{same_Some}
use Rattle.std.specs.Prelude.{IsSome, nat_lt, unwrap_or}
use Rattle.std.specs.Io.KnownBytes.{Appends, Keeps}
use Rattle.std.specs.List.{All}
use Rattle.model_line.specs.{declared.line.Line.Line, declared.script.Script.Script, Fits.Fits}
use Rattle.file_line.specs.{LineFiles.line_of, Lines.LineValues, Lines.line_values}
use Rattle.file_document.specs.declared.fault.DocumentFault.{DocumentFault}
use Rattle.file_tables.specs.script.Scripts.{scripts_of}
use Rattle.file_tables.specs.script.Values.{ScriptValues, values_of}
use Rattle.file_tables.specs.declared.script.fault.ScriptFault.{ScriptFault}
use Rattle.call_answer.specs.Sinks.{SinkView}
use Rattle.call_answer.specs.SinkLaws.{keeps_same}
use Rattle.call_pilot.specs.top.CallOver.{HasPut, IsFrontOfText, IsOverThree, IsOverTwo}
use Rattle.call_files.specs.declared.stop.File.{File}
use Rattle.call_files.specs.declared.stop.Status.TheVariants as status
use Rattle.call_files.specs.{Status.IsDone, Status.status_of, declared.stop.Status.Status}
use Rattle.call_files.specs.declared.stop.Stop.{Stop}

-- ---- what was put is nothing, or a front of a text that may be answered

-- it is a front of the text
pub record IsFront (put text : List ℕ) : Type 0 where
  pub rest : List ℕ
  pub is : put ++ rest ≡ text

-- a front of a text that may be answered
pub record IsAnswerFront (allowed : CallAnswers) (put : List ℕ) : Type 0 where
  pub status : Status
  pub text : List ℕ
  pub line : List ℕ
  pub is : allowed status text line
  pub front : IsFront put text

-- what a sink grew by is what was put
pub grew_put : (old new : Option (List ℕ)) (before put text : List ℕ) → old ≡ Some before
    → new ≡ Some (before ++ put) → Appends old new text → put ≡ text
grew_put None new before put text told after grew = absurd (cc)
grew_put (Some a) None before put text told after grew = absurd grew
grew_put (Some a) (Some b) before put text told after grew =
    append_cancel_left before put text
    (sym (same_Some b (before ++ put) after) ∙ grew
    ∙ ap (λ (l : List ℕ). l ++ text) (same_Some a before told))

kept_put : (old new : Option (List ℕ)) (before put : List ℕ) → old ≡ Some before
    → new ≡ Some (before ++ put) → Keeps old new → put ≡ []
kept_put None new before put told after kept = absurd (cc)
kept_put (Some a) None before put told after kept = absurd kept
kept_put (Some a) (Some b) before put told after kept =
    append_cancel_left before put []
    (sym (same_Some b (before ++ put) after) ∙ kept ∙ same_Some a before told
    ∙ sym (append-nil before))

module _ {K : Type 0} (view : K → SinkView) (old new : K) (files : List ℕ → Option (List ℕ))
    (c1 c2 : List ℕ → ℕ) (put : List ℕ) (has : HasPut (view old) (view new) put) where
  kept_nothing : Keeps (view old).written (view new).written → put ≡ []
  kept_nothing kept =
      kept_put (view old).written (view new).written has.before put has.told_before has.told_after
      kept

  same_nothing : new ≡ old → put ≡ []
  same_nothing is =
      kept_nothing
      (subst (λ (k : K). Keeps (view old).written (view k).written) (sym is)
      (keeps_same (view old).written))

  grew_front : (text : List ℕ) (n : ℕ)
      → Appends (view old).written (view new).written (take n text) → IsFront put text
  grew_front text n grew =
      let is : put ≡ take n text =
      grew_put (view old).written (view new).written has.before put (take n text) has.told_before
      has.told_after grew in
      record {
        rest = drop n text;
        is = ap (λ (l : List ℕ). l ++ drop n text) is ∙ take-append-drop n text;
      }

  grew_whole : (text : List ℕ) → Appends (view old).written (view new).written text
      → IsFront put text
  grew_whole text grew = record {
    rest = [];
    is = append-nil put
        ∙ grew_put (view old).written (view new).written has.before put text has.told_before
        has.told_after grew;
  }

  -- what a command that is told put on out
  pub what_was_put : (x : Command) (r : Result Status Stop)
      → EndsOf view (Some x) files c1 c2 old new r → AllTold files (files_of x)
      → (put ≡ []) ⊎ IsAnswerFront (answers (Some x) files) put
  what_was_put x (Ok s) e told = inr (record {
    status = s;
    text = e.1.1;
    line = [];
    is = e.1.2 told;
    front = grew_whole e.1.1 e.1.3.taken;
  })
  what_was_put x (Err stop.Usage) e told = absurd e.1
  what_was_put x (Err (stop.Refused why)) e told = inl (same_nothing e.1.1)
  what_was_put x (Err (stop.Store f)) e told = inl (same_nothing e.1)
  what_was_put x (Err stop.Sink) e told = inr (record {
    status = e.1.1;
    text = e.1.2;
    line = e.1.3;
    is = e.1.4 told;
    front = grew_front e.1.2 e.1.5.count e.1.5.taken;
  })
  what_was_put x (Err stop.Memory) e told =
      ⊎_elim (λ kept. inl (kept_nothing kept))
      (λ grew. inr (record {
        status = grew.0;
        text = grew.1;
        line = grew.2;
        is = grew.3 told;
        front = grew_front grew.1 grew.4.count grew.4.taken;
      }))
      e.1.1

pub no_line : {X : Type 0} (before : List (List ℕ)) (line : List ℕ) (after : List (List ℕ))
    → [] ≡ before ++ line ∷ after → X
no_line [] line after same = absurd (cc)
no_line (b ∷ before) line after same = absurd (cc)

pub front_of_nothing : (put rest : List ℕ) → put ++ rest ≡ [] → put ≡ []
front_of_nothing [] rest same = refl
front_of_nothing (b ∷ put) rest same = absurd (cc)

-- ---- what the files say

module _ {X : Type 0} (refused : Refusal → Type 0) (not_refused : (why : Refusal) → refused why → X)
  where
    pub line_said : (r : Result LineValues DocumentFault) (holds : Line → Type 0)
        → of_line r refused holds
        → ((line : Line) → r ≡ Ok (line_values line) → holds line → X) → X
    line_said (Ok values) holds is then = then is.0 (ap Ok (sym is.1)) is.2
    line_said (Err why) holds is then = not_refused (refusal.Line why) is

    pub scripts_said : (line : Line) (r : Result (List ScriptValues) ScriptFault)
        (holds : List Script → Type 0) → of_scripts line r refused holds
        → ((scripts : List Script) → r ≡ Ok (map values_of scripts) → All (Fits line) scripts
        → holds scripts → X)
        → X
    scripts_said line (Ok values) holds is then = then is.0 (ap Ok (sym is.1)) is.2 is.3
    scripts_said line (Err why) holds is then = not_refused (refusal.Scripts why) is

    pub study_said : (line_bytes scripts_bytes : List ℕ) (holds : Line → List Script → Type 0)
        → of_study line_bytes scripts_bytes refused holds
        → ((line : Line) (scripts : List Script) → line_of line_bytes ≡ Ok (line_values line)
        → scripts_of line scripts_bytes ≡ Ok (map values_of scripts) → All (Fits line) scripts
        → holds line scripts → X)
        → X
    study_said line_bytes scripts_bytes holds is then =
        line_said (line_of line_bytes)
        (λ line. of_scripts line (scripts_of line scripts_bytes) refused (holds line)) is
        (λ line line_is more.
        scripts_said line (scripts_of line scripts_bytes) (holds line) more
        (λ scripts scripts_are fit held. then line scripts line_is scripts_are fit held))

-- the files are there, or one of them is too long
pub two_limits : {X : Type 0} (P : Result (List (List ℕ)) File → Type 0) (a b : List ℕ) (f g : File)
    (o p : Bool)
    → P (cond o (Err f) (in_front a (cond p (Err g) (in_front b (Ok [])))))
    → ((h : File) → P (Err h) → X) → (P (Ok (a ∷ b ∷ [])) → X) → X
two_limits P a b f g true p is long short = long f is
two_limits P a b f g false true is long short = long g is
two_limits P a b f g false false is long short = short is

pub three_limits : {X : Type 0} (P : Result (List (List ℕ)) File → Type 0) (a b c : List ℕ)
    (f g h : File) (o p q : Bool)
    → P (cond o (Err f) (in_front a (cond p (Err g) (in_front b (cond q (Err h)
    (in_front c (Ok [])))))))
    → ((k : File) → P (Err k) → X) → (P (Ok (a ∷ b ∷ c ∷ [])) → X) → X
three_limits P a b c f g h true p q is long short = long f is
three_limits P a b c f g h false true q is long short = long g is
three_limits P a b c f g h false false true is long short = long h is
three_limits P a b c f g h false false false is long short = short is

pub bytes_told : (files : List ℕ → Option (List ℕ)) (name bytes : List ℕ) → files name ≡ Some bytes
    → unwrap_or (files name) [] ≡ bytes
bytes_told files name bytes told = ap (λ (o : Option (List ℕ)). unwrap_or o []) told

pub is_told : (files : List ℕ → Option (List ℕ)) (name bytes : List ℕ) → files name ≡ Some bytes
    → IsSome (files name)
is_told files name bytes told = subst (λ (o : Option (List ℕ)). IsSome o) (sym told) refl

-- ---- the files of a command are told

pub all_two : (command : Option Command) (files : List ℕ → Option (List ℕ)) (work : TwoFiles)
    (line scripts : List ℕ) → (over : IsOverTwo command files work line scripts)
    → AllTold files (files_of (two_files work over.line_name over.scripts_name))
all_two command files work line scripts over = (
  is_told files over.line_name line over.line_told,
  (is_told files over.scripts_name scripts over.scripts_told, tt),
)

pub all_three : (command : Option Command) (files : List ℕ → Option (List ℕ)) (work : ThreeFiles)
    (line scripts own : List ℕ) → (over : IsOverThree command files work line scripts own)
    → AllTold files (files_of (three_files work over.line_name over.scripts_name over.own_name))
all_three command files work line scripts own over = (
  is_told files over.line_name line over.line_told,
  (
    is_told files over.scripts_name scripts over.scripts_told,
    (is_told files over.own_name own over.own_told, tt),
  ),
)

-- ---- a command that is done

module _ {K : Type 0} (view : K → SinkView) (old new : K) (files : List ℕ → Option (List ℕ))
    (c1 c2 : List ℕ → ℕ) where
  -- what a command that is done put on out is its answer
  pub done_put : (x : Command) (r : Result Status Stop) → EndsOf view (Some x) files c1 c2 old new r
      → IsDone (status_of r) → AllTold files (files_of x) → (put : List ℕ)
      → HasPut (view old) (view new) put → answers (Some x) files (status_of r) put []
  done_put x (Ok s) e done told put has =
      subst (λ (t : List ℕ). answers (Some x) files s t [])
      (sym (grew_put (view old).written (view new).written has.before put e.1.1 has.told_before
      has.told_after e.1.3.taken))
      (e.1.2 told)
  done_put x (Err stop.Usage) e done told put has = absurd done
  done_put x (Err (stop.Refused why)) e done told put has = absurd done
  done_put x (Err (stop.Store f)) e done told put has = absurd done
  done_put x (Err stop.Sink) e done told put has = absurd done
  done_put x (Err stop.Memory) e done told put has = absurd done

  -- where each text that may be answered is of this kind, or is that of a refusal, what was put is a
  -- front of one
  pub front_of : (x : Command) (r : Result Status Stop) → EndsOf view (Some x) files c1 c2 old new r
      → AllTold files (files_of x) → (put : List ℕ) → HasPut (view old) (view new) put
      → (Fact : List ℕ → Type 0)
      → ((s : Status) (text message : List ℕ) → (s ≡ status.BadInput → text ≡ [] → Fact text)
      → answers (Some x) files s text message → Fact text)
      → IsFrontOfText (status_of r) put Fact
  front_of x r e told put has Fact true_of = record {
    whole = λ done.
        true_of (status_of r) put [] (λ refused none. absurd (subst IsDone refused done))
        (done_put x r e done told put has);
    front = λ some.
        ⊎_elim (λ none. absurd (some none))
        (λ front. (
          front.front.rest,
          subst Fact (sym front.front.is)
              (true_of front.status front.text front.line
              (λ refused none.
              absurd (some (front_of_nothing put front.front.rest (front.front.is ∙ none))))
              front.is),
        ))
        (what_was_put view old new files c1 c2 put has x r e told);
  }

  pub done_answer : (x : Command) (r : Result Status Stop)
      → EndsOf view (Some x) files c1 c2 old new r → IsDone (status_of r)
      → AllTold files (files_of x) → (text : List ℕ) × answers (Some x) files (status_of r) text []
  done_answer x (Ok s) e done told = (e.1.1, e.1.2 told)
  done_answer x (Err stop.Usage) e done told = absurd done
  done_answer x (Err (stop.Refused why)) e done told = absurd done
  done_answer x (Err (stop.Store f)) e done told = absurd done
  done_answer x (Err stop.Sink) e done told = absurd done
  done_answer x (Err stop.Memory) e done told = absurd done

-- ---- a command over three files

module _ (files : List ℕ → Option (List ℕ))
    (line scripts third line_bytes scripts_bytes third_bytes : List ℕ)
    (line_told : files line ≡ Some line_bytes) (scripts_told : files scripts ≡ Some scripts_bytes)
    (third_told : files third ≡ Some third_bytes) (s : Status) (text message : List ℕ) where
  abbrev Stops : Refusal → Type 0
  Stops why = refuses why s text message

  pub three_told : {X : Type 0} (command : ThreeFiles) → ((why : Refusal) → Stops why → X)
      → ((of : Line) (all : List Script) → line_of line_bytes ≡ Ok (line_values of)
      → scripts_of of scripts_bytes ≡ Ok (map values_of all) → All (Fits of) all
      → third_file command third_bytes of all Stops
      (λ w. done_with (answer w) s text message) → X)
      → answers (Some (three_files command line scripts third)) files s text message
      → X
  three_told {X} command refused then is =
      three_limits
      (λ r. over_files (three_files command line scripts third) r Stops
      (λ w. done_with (answer w) s text message))
      (unwrap_or (files line) []) (unwrap_or (files scripts) []) (unwrap_or (files third) [])
      file.Line file.Scripts (own_file command)
      (nat_lt (limit_of file.Line) (length (unwrap_or (files line) [])))
      (nat_lt (limit_of file.Scripts) (length (unwrap_or (files scripts) [])))
      (nat_lt (limit_of (own_file command)) (length (unwrap_or (files third) []))) is
      (λ f long. refused (refusal.TooLong f) long)
      (λ read.
      study_said Stops refused line_bytes scripts_bytes
      (λ of all. third_file command third_bytes of all Stops
      (λ w. done_with (answer w) s text message))
      (subst (λ (b : List ℕ). of_study line_bytes scripts_bytes Stops
      (λ of all. third_file command b of all Stops
      (λ w. done_with (answer w) s text message)))
      (bytes_told files third third_bytes third_told)
      (subst (λ (b : List ℕ). of_study line_bytes b Stops
      (λ of all. third_file command (unwrap_or (files third) []) of all Stops
      (λ w. done_with (answer w) s text message)))
      (bytes_told files scripts scripts_bytes scripts_told)
      (subst (λ (b : List ℕ). of_study b (unwrap_or (files scripts) []) Stops
      (λ of all. third_file command (unwrap_or (files third) []) of all Stops
      (λ w. done_with (answer w) s text message)))
      (bytes_told files line line_bytes line_told) read)))
      then)
