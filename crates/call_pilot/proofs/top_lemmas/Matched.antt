-- What `match` has put is true of every choice of delays.
use Rattle.std.proofs.Common.{◌≡◌, ℕ, Bool, true, false, List, [], ◌++◌, Option, Some, Result, Ok}
use Rattle.std.proofs.Common.{Err, refl}
use Rattle.std.proofs.Common.{sym, ◌∙◌, ap, subst, ⊎_elim}
use Rattle.std.specs.Prelude.{slice_get}
use Rattle.std.specs.List.{All}
use Rattle.model_line.specs.{declared.line.Line.Line, declared.script.Script.Script}
use Rattle.judge_match.specs.{matching.Answer.IsMatchAnswer, matching.Recorded.IsRecordOf}
use Rattle.judge_match.specs.matching.Waves.{SeenValues, records_said}
use Rattle.judge_match.specs.declared.matching.fault.SeenFault.{SeenFault}
use Rattle.call_answer.specs.{Answers.status_by, Sinks.SinkView}
use Rattle.cert_own.specs.Matched.{HasMatch, Matched, matched_words}
use Rattle.cert_own.specs.WholeLines.{whole_lines}
use Rattle.call_pilot.specs.{top.Call.answers, top.Ends.EndsOf}
use Rattle.call_pilot.specs.top.CallOver.{HasPut, IsOverThree}
use Rattle.call_pilot.specs.top.HeadlineLaws.{HeadlineLaws}
use Rattle.call_pilot.specs.top.MatchTruths.{InRecords, IsMatchToldBy, IsMatchTrue, OfRecords}
use Rattle.call_files.specs.{Said.of_record, Status.IsDone, Status.status_of}
use Rattle.call_files.specs.Status.{status_of_done}
use Rattle.call_pilot.specs.top.Words.{Command, three_files}
use Rattle.call_files.specs.declared.refusal.Refusal.{Refusal}
use Rattle.call_files.specs.declared.refusal.Refusal.TheVariants as refusal
use Rattle.call_files.specs.declared.stop.Status.{Status}
use Rattle.call_files.specs.declared.stop.Stop.{Stop}
use Rattle.call_pilot.specs.declared.top.words.ThreeFiles.TheVariants as three
use Rattle.call_pilot.proofs.top_lemmas.Told.{IsAnswerFront, all_three, done_answer, front_of_nothing}
use Rattle.call_pilot.proofs.top_lemmas.Told.{three_told, what_was_put}
use Rattle.call_pilot.proofs.{top_lemmas.SameFiles.in_files}
use Rattle.call_pilot.specs.{top.SameMatchLaws.match_on}
use Rattle.call_pilot.specs.top.SameMatchLaws.{match_told_on, of_records_on}

-- nothing has no line
no_match : {X : Type 0} (put name : List ℕ) (i : ℕ) (said : Matched) → put ≡ []
    → HasMatch put i name said → X
no_match put name i said none has =
    let at : slice_get (whole_lines []) i ≡ Some (name ++ matched_words said) =
    subst (λ (t : List ℕ). slice_get (whole_lines t) i ≡ Some (name ++ matched_words said)) none
    has.stands in
    absurd (cc)

none_in_front : {X : Type 0} (put rest text name : List ℕ) (i : ℕ) (said : Matched)
    → put ++ rest ≡ text → text ≡ [] → HasMatch put i name said → X
none_in_front put rest text name i said is none has =
    no_match put name i said (front_of_nothing put rest (is ∙ none)) has

-- the records that the bytes say
record_said : {X : Type 0} (r : Result (List SeenValues) SeenFault) (refused : Refusal → Type 0)
    (holds : List SeenValues → Type 0) → of_record r refused holds
    → ((why : Refusal) → refused why → X)
    → ((records : List SeenValues) → r ≡ Ok records → holds records → X) → X
record_said (Ok records) refused holds is stopped then = then records refl is
record_said (Err why) refused holds is stopped then = stopped (refusal.Record why) is

match_front : HeadlineLaws → (files : List ℕ → Option (List ℕ))
    (line scripts entries line_bytes scripts_bytes record_bytes : List ℕ)
    → files line ≡ Some line_bytes → files scripts ≡ Some scripts_bytes
    → files entries ≡ Some record_bytes → (put name : List ℕ) (i : ℕ) (said : Matched)
    → IsAnswerFront (answers (Some (three_files three.Match line scripts entries)) files) put
    → HasMatch put i name said → InRecords line_bytes scripts_bytes record_bytes (IsMatchTrue i name said)
match_front known files line scripts entries line_bytes scripts_bytes record_bytes line_told
    scripts_told record_told put name i said front has =
    three_told files line scripts entries line_bytes scripts_bytes record_bytes line_told
    scripts_told record_told front.status front.text front.line three.Match
    (λ why refused.
    none_in_front put front.front.rest front.text name i said front.front.is refused.1 has)
    (λ of all line_is scripts_are fit read.
    record_said (records_said of all record_bytes) _ _ read (λ why refused.
    none_in_front put front.front.rest front.text name i said front.front.is refused.1 has)
    (λ records records_are done.
    in_files known.one_file line_bytes scripts_bytes (OfRecords record_bytes (IsMatchTrue i name said))
    (λ a b lines xs ys both.
    of_records_on a b lines xs ys both record_bytes (IsMatchTrue i name said)
    (λ records.
    match_on known.counts known.histories known.logic a b lines xs ys both records i name said))
    of all line_is scripts_are (record {
      records = records;
      records_are = records_are;
      holds = known.of_records.matched of all records done.2.some_impossible done.2.some_open front.text put
          front.front.rest name i said fit (known.of_records.records of all record_bytes records records_are)
          done.2.settled front.front.is has;
    })))
    front.is

-- what the status says of records
told_by : HeadlineLaws → (line : Line) (scripts : List Script) (records : List SeenValues)
    (x y : Bool) (text : List ℕ) → All (IsRecordOf line scripts) records
    → IsMatchAnswer line scripts records x y text
    → IsMatchToldBy (status_of_done (status_by x y)) line scripts records
told_by known line scripts records true y text of is =
    known.of_records.some_impossible line scripts records y text of is
told_by known line scripts records false true text of is =
    known.of_records.some_open line scripts records false text of is
told_by known line scripts records false false text of is =
    known.of_records.all_given line scripts records text of is

match_told : HeadlineLaws → (files : List ℕ → Option (List ℕ))
    (line scripts entries line_bytes scripts_bytes record_bytes : List ℕ)
    → files line ≡ Some line_bytes → files scripts ≡ Some scripts_bytes
    → files entries ≡ Some record_bytes → (s : Status) (text : List ℕ) → IsDone s
    → answers (Some (three_files three.Match line scripts entries)) files s text []
    → InRecords line_bytes scripts_bytes record_bytes (IsMatchToldBy s)
match_told known files line scripts entries line_bytes scripts_bytes record_bytes line_told
    scripts_told record_told s text is_done answered =
    three_told files line scripts entries line_bytes scripts_bytes record_bytes line_told
    scripts_told record_told s text [] three.Match
    (λ why refused. absurd (subst IsDone refused.0 is_done))
    (λ of all line_is scripts_are fit read.
    record_said (records_said of all record_bytes) _ _ read
    (λ why refused. absurd (subst IsDone refused.0 is_done))
    (λ records records_are done.
    in_files known.one_file line_bytes scripts_bytes (OfRecords record_bytes (IsMatchToldBy s))
    (λ a b lines xs ys both.
    of_records_on a b lines xs ys both record_bytes (IsMatchToldBy s)
    (λ records.
    match_told_on known.counts known.histories known.logic a b lines xs ys both records s))
    of all line_is scripts_are (record {
      records = records;
      records_are = records_are;
      holds = subst (λ (t : Status). IsMatchToldBy t of all records)
          (sym (done.1 ∙ ap status_of_done done.2.status_is))
          (told_by known of all records done.2.some_impossible done.2.some_open text
          (known.of_records.records of all record_bytes records records_are) done.2.settled);
    })))
    answered

module _ {K : Type 0} (view : K → SinkView) (old new : K) (files : List ℕ → Option (List ℕ))
    (c1 c2 : List ℕ → ℕ) (known : HeadlineLaws) where
  pub match_true : (command : Option Command) (r : Result Status Stop)
      → EndsOf view command files c1 c2 old new r → (line scripts records put name : List ℕ) (i : ℕ)
      (said : Matched) → IsOverThree command files three.Match line scripts records
      → HasPut (view old) (view new) put → HasMatch put i name said
      → InRecords line scripts records (IsMatchTrue i name said)
  match_true command r e line scripts records put name i said over has there =
      ⊎_elim (λ none. no_match put name i said none there)
      (λ front.
      match_front known files over.line_name over.scripts_name over.own_name line scripts records
      over.line_told over.scripts_told over.own_told put name i said front there)
      (what_was_put view old new files c1 c2 put has
      (three_files three.Match over.line_name over.scripts_name over.own_name) r
      (subst (λ (x : Option Command). EndsOf view x files c1 c2 old new r) over.is e)
      (all_three command files three.Match line scripts records over))

  pub match_says : (command : Option Command) (r : Result Status Stop)
      → EndsOf view command files c1 c2 old new r → (line scripts records : List ℕ)
      → IsOverThree command files three.Match line scripts records → IsDone (status_of r)
      → InRecords line scripts records (IsMatchToldBy (status_of r))
  match_says command r e line scripts records over done =
      let (text, answered) =
      done_answer view old new files c1 c2
      (three_files three.Match over.line_name over.scripts_name over.own_name) r
      (subst (λ (x : Option Command). EndsOf view x files c1 c2 old new r) over.is e) done
      (all_three command files three.Match line scripts records over) in
      match_told known files over.line_name over.scripts_name over.own_name line scripts records
      over.line_told over.scripts_told over.own_told (status_of r) text done answered
