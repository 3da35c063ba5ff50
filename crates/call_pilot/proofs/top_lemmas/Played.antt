-- What `play` has put is the rows of the histories of its timings.
use Rattle.std.proofs.Common.{◌≡◌, ℕ, List, [], ◌∷◌, Option, Some, Result, Ok, Err}
use Rattle.std.proofs.Common.{get_or, refl, ◌∙◌, subst}
use Rattle.std.proofs.lemmas.List.Elements.{All-head, All-tail}
use Rattle.std.specs.List.{All, flat_map}
use Rattle.model_line.specs.{declared.line.Line.Line, declared.script.Script.Script}
use Rattle.model_logic.specs.Histories.{History}
use Rattle.model_timing.specs.Inside.{IsTimingInside}
use Rattle.model_timing.specs.NamedValues.{NamedValues}
use Rattle.file_tables.specs.timing.Timings.{timings_of}
use Rattle.file_tables.specs.declared.timing.fault.TimingFault.{TimingFault}
use Rattle.run_changes.specs.rows.PlayRows.{run_rows}
use Rattle.call_pilot.specs.commands.Play.{IsPlayText, IsRunText, IsTimingText, Pieces}
use Rattle.call_answer.specs.Sinks.{SinkView}
use Rattle.call_pilot.specs.{top.Call.answers, top.Ends.EndsOf}
use Rattle.call_pilot.specs.top.CallOver.{HasPut, IsFrontOfText, IsOverThree}
use Rattle.call_pilot.specs.{top.HeadlineLaws.HeadlineLaws, top.PlayTruths.AreTheHistories}
use Rattle.call_pilot.specs.top.PlayTruths.{IsPlayTrue, rows_of_all}
use Rattle.call_files.specs.Said.{of_timings}
use Rattle.call_files.specs.Status.{status_of}
use Rattle.call_pilot.specs.top.Words.{Command, three_files}
use Rattle.call_files.specs.declared.refusal.Refusal.{Refusal}
use Rattle.call_files.specs.declared.refusal.Refusal.TheVariants as refusal
use Rattle.call_files.specs.declared.stop.Status.{Status}
use Rattle.call_files.specs.declared.stop.Status.TheVariants as status
use Rattle.call_files.specs.declared.stop.Stop.{Stop}
use Rattle.call_pilot.specs.declared.top.words.ThreeFiles.TheVariants as three
use Rattle.call_pilot.specs.top.SaidByFiles.{InFiles}
use Rattle.call_pilot.proofs.{top_lemmas.SameFiles.Moves, top_lemmas.SameFiles.in_files, top_lemmas.SameFiles.in_files_then}
use Rattle.call_pilot.specs.top.SamePlayLaws.{play_text_on, timing_inside, timings_same}
use Rattle.call_pilot.proofs.commands_lemmas.PlayTexts.{any}
use Rattle.call_pilot.proofs.top_lemmas.Told.{all_three, front_of, three_told}

-- one piece after another is a text of pieces
pieces_of : {X : Type 0} (IsPiece : X → List ℕ → Type 0) (P : X → Type 0) (f : X → List ℕ)
    → ((x : X) → P x → IsPiece x (f x)) → (xs : List X) → All P xs
    → Pieces IsPiece xs (flat_map f xs)
pieces_of IsPiece P f is [] all = refl
pieces_of IsPiece P f is (x ∷ xs) all = (
  f x,
  flat_map f xs,
  is x (All-head P x xs all),
  pieces_of IsPiece P f is xs (All-tail P x xs all),
  refl,
)

-- the rows of all histories are a play text
play_text : (line : Line) (scripts : List Script) (timings : List NamedValues)
    (histories : NamedValues → Script → History) → AreTheHistories line histories
    → All (λ timing. IsTimingInside line timing.timing) timings
    → IsPlayText line scripts timings (rows_of_all line scripts timings histories)
play_text line scripts timings histories are inside =
    let run : NamedValues → Script → List ℕ =
    λ timing script. run_rows timing.name script.name line (histories timing script) in
    let rows : List ℕ = flat_map (λ timing. flat_map (run timing) scripts) timings in
    record {
      rows = rows;
      are_rows = pieces_of (IsTimingText line scripts)
          (λ timing. IsTimingInside line timing.timing)
          (λ timing. flat_map (run timing) scripts)
          (λ timing within.
          pieces_of (IsRunText line timing) (λ script. Unit {0}) (run timing)
          (λ script _. record {
            history = histories timing script;
            is_history = are timing script within;
            text_is = refl;
          })
          scripts (any scripts))
          timings inside;
      text_is = refl;
    }

-- the timings that the bytes say
timings_said : {X : Type 0} (line : Line) (r : Result (List NamedValues) TimingFault)
    (refused : Refusal → Type 0) (holds : List NamedValues → Type 0)
    → of_timings line r refused holds → ((why : Refusal) → refused why → X)
    → ((timings : List NamedValues) → r ≡ Ok timings
    → All (λ timing. IsTimingInside line timing.timing) timings → holds timings → X) → X
timings_said line (Ok timings) refused holds is stopped then = then timings refl is.0 is.1
timings_said line (Err why) refused holds is stopped then = stopped (refusal.Timings why) is

-- what is told of a play: the timings that the bytes say, and a play text of them
record IsPlayTold (timings_bytes text : List ℕ) (line : Line) (scripts : List Script)
    : Type 0 where
  pub timings : List NamedValues
  pub timings_are : timings_of line timings_bytes ≡ Ok timings
  pub inside : All (λ timing. IsTimingInside line timing.timing) timings
  pub text_is : IsPlayText line scripts timings text

module _ (known : HeadlineLaws) where
  told_on : (timings_bytes text : List ℕ) → Moves (IsPlayTold timings_bytes text)
  told_on timings_bytes text a b lines xs ys scripts is = record {
    timings = is.timings;
    timings_are = timings_same known.counts known.histories a b lines timings_bytes
        ∙ is.timings_are;
    inside = λ i d lt.
        timing_inside known.counts known.histories a b lines (get_or is.timings i d).timing
        (is.inside i d lt);
    text_is = play_text_on known.counts known.histories a b lines xs ys scripts is.timings text
        is.text_is;
  }

  -- it is the one text
  told_true : (timings_bytes text : List ℕ) (line : Line) (scripts : List Script)
      → IsPlayTold timings_bytes text line scripts → IsPlayTrue line scripts timings_bytes text
  told_true timings_bytes text line scripts is = record {
    timings = is.timings;
    timings_are = is.timings_are;
    inside = is.inside;
    rows = λ histories are.
        known.of_records.played line scripts is.timings text
        (rows_of_all line scripts is.timings histories) is.inside is.text_is
        (play_text line scripts is.timings histories are is.inside);
  }

module _ (known : HeadlineLaws) (files : List ℕ → Option (List ℕ))
    (line scripts timings line_bytes scripts_bytes timings_bytes : List ℕ)
    (line_told : files line ≡ Some line_bytes) (scripts_told : files scripts ≡ Some scripts_bytes)
    (timings_told : files timings ≡ Some timings_bytes) where
  abbrev IsTrueText : List ℕ → Type 0
  IsTrueText text =
      InFiles line_bytes scripts_bytes (λ of all. IsPlayTrue of all timings_bytes text)

  -- what may be answered, where nothing is refused
  text_true : (s : Status) (text message : List ℕ)
      → (s ≡ status.BadInput → text ≡ [] → IsTrueText text)
      → answers (Some (three_files three.Play line scripts timings)) files s text message
      → IsTrueText text
  text_true s text message stopped answered =
      three_told files line scripts timings line_bytes scripts_bytes timings_bytes line_told
      scripts_told timings_told s text message three.Play
      (λ why refused. stopped refused.0 refused.1)
      (λ of all line_is scripts_are fit read.
      timings_said of (timings_of of timings_bytes) _ _ read
      (λ why refused. stopped refused.0 refused.1)
      (λ list list_is inside done.
      in_files_then line_bytes scripts_bytes (IsPlayTold timings_bytes text)
      (λ a xs. IsPlayTrue a xs timings_bytes text) (told_true known timings_bytes text)
      (in_files known.one_file line_bytes scripts_bytes (IsPlayTold timings_bytes text)
      (told_on known timings_bytes text) of all line_is scripts_are (record {
        timings = list;
        timings_are = list_is;
        inside = inside;
        text_is = done.2.1;
      }))))
      answered

module _ {K : Type 0} (view : K → SinkView) (old new : K) (files : List ℕ → Option (List ℕ))
    (c1 c2 : List ℕ → ℕ) (known : HeadlineLaws) where
  pub play_true : (command : Option Command) (r : Result Status Stop)
      → EndsOf view command files c1 c2 old new r → (line scripts timings put : List ℕ)
      → IsOverThree command files three.Play line scripts timings → HasPut (view old) (view new) put
      → IsFrontOfText (status_of r) put
      (λ text. InFiles line scripts (λ of all. IsPlayTrue of all timings text))
  play_true command r e line scripts timings put over has =
      front_of view old new files c1 c2
      (three_files three.Play over.line_name over.scripts_name over.own_name) r
      (subst (λ (x : Option Command). EndsOf view x files c1 c2 old new r) over.is e)
      (all_three command files three.Play line scripts timings over) put has
      (λ text. InFiles line scripts (λ of all. IsPlayTrue of all timings text))
      (text_true known files over.line_name over.scripts_name over.own_name line scripts timings
      over.line_told over.scripts_told over.own_told)
