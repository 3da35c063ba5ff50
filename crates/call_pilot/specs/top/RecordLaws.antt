-- The laws that what is said of records of the field, and of plays, rests on.
use Rattle.std.specs.Prelude.{◌≡◌, ◌++◌, ℕ, Bool, true, false, List, Ok}
use Rattle.std.specs.List.{All}
use Rattle.model_line.specs.{declared.line.Line.Line, declared.script.Script.Script, Fits.Fits}
use Rattle.model_timing.specs.{Inside.IsTimingInside}
use Rattle.model_timing.specs.NamedValues.{NamedValues}
use Rattle.judge_match.specs.{matching.Answer.IsMatchAnswer, matching.Recorded.IsRecordOf}
use Rattle.judge_match.specs.matching.Waves.{SeenValues, records_said}
use Rattle.call_pilot.specs.commands.Play.{IsPlayText}
use Rattle.cert_own.specs.Matched.{AllGiven, HasMatch, HoldsOfRecord, HoldsOfRecordAt}
use Rattle.cert_own.specs.Matched.{HoldsOfSomeRecord, IsGivenByNone, IsOpenRecord, Matched}

pub record RecordLaws : Type 0 where
  pub records : (line : Line) (scripts : List Script) (bytes : List ℕ) (records : List SeenValues)
      → records_said line scripts bytes ≡ Ok records → All (IsRecordOf line scripts) records
  pub matched : (line : Line) (scripts : List Script) (records : List SeenValues)
      (some_impossible some_open : Bool) (text front rest name : List ℕ) (i : ℕ) (said : Matched)
      → All (Fits line) scripts → All (IsRecordOf line scripts) records
      → IsMatchAnswer line scripts records some_impossible some_open text
      → front ++ rest ≡ text → HasMatch front i name said
      → HoldsOfRecordAt line scripts records i name (HoldsOfRecord said)
  pub all_given : (line : Line) (scripts : List Script) (records : List SeenValues)
      (text : List ℕ) → All (IsRecordOf line scripts) records
      → IsMatchAnswer line scripts records false false text → AllGiven line scripts records
  pub some_impossible : (line : Line) (scripts : List Script) (records : List SeenValues)
      (some_open : Bool) (text : List ℕ) → All (IsRecordOf line scripts) records
      → IsMatchAnswer line scripts records true some_open text
      → HoldsOfSomeRecord line scripts records IsGivenByNone
  pub some_open : (line : Line) (scripts : List Script) (records : List SeenValues)
      (some_impossible : Bool) (text : List ℕ) → All (IsRecordOf line scripts) records
      → IsMatchAnswer line scripts records some_impossible true text
      → HoldsOfSomeRecord line scripts records IsOpenRecord
  pub played : (line : Line) (scripts : List Script) (timings : List NamedValues)
      (a b : List ℕ) → All (λ timing. IsTimingInside line timing.timing) timings
      → IsPlayText line scripts timings a → IsPlayText line scripts timings b → a ≡ b
