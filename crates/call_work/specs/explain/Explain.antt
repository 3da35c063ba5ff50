-- What is said of a record, and why nothing is.
use Rattle.std.specs.Prelude.{◌≡◌, ◌<◌, ◌≤◌, ℕ, List, Option, Some, Ok, Err, length, slice_get}
use Rattle.model_line.specs.{declared.line.Line.Line, declared.script.Script.Script}
use Rattle.judge_match.specs.matching.Waves.{SeenValues, records_said}
use Rattle.judge_match.specs.matching.Recorded.{recorded}
use Rattle.judge_match.specs.explain.Answers.{IsExplanation}
use Rattle.judge_match.specs.declared.explain.answer.Explanation.{Explanation}
use Rattle.call_answer.specs.{Answers.Answers, declared.done.Done.Done}
use Rattle.call_work.specs.{explain.Picked.picked, explain.Table.answer_text, explain.Table.answer_status}
use Rattle.call_work.specs.declared.explain.asked.Asked.{Asked}
use Rattle.call_ask.specs.declared.explain.ExplainForm.{ExplainForm}
use Rattle.call_work.specs.declared.explain.fault.ExplainFault.{ExplainFault}
use Rattle.call_work.specs.declared.explain.fault.ExplainFault.TheVariants as fault
use Rattle.call_work.specs.declared.explain.unpicked.Unpicked.{Unpicked}

-- the file is not too long
pub record IsAsked (asked : Asked) : Type 0 where
  pub short : length asked.record.now ≤ 1048576

-- the record that is asked about is read, and this is an answer to it, with its status and text;
-- where more than one answer is right, which one it is is left free
pub record IsExplainAnswer (line : Line) (scripts : List Script) (bytes : List ℕ)
    (which : Option ℕ) (within : ℕ) (form : ExplainForm) (status : Done) (text : List ℕ)
    : Type 0 where
  pub records : List SeenValues
  pub read : records_said line scripts bytes ≡ Ok records
  pub values : SeenValues
  pub picks : picked which records ≡ Ok values
  pub script : Script
  pub script_is : slice_get scripts values.script ≡ Some script
  pub explanation : Explanation
  pub is : IsExplanation line script within (recorded values) explanation
  pub status_is : status ≡ answer_status explanation
  pub text_is : text ≡ answer_text line form explanation

abbrev pub explain_answer : Line → List Script → List ℕ → Option ℕ → ℕ → ExplainForm → Answers
explain_answer line scripts bytes which within form =
    IsExplainAnswer line scripts bytes which within form

-- the records are read, but none of them is picked
pub record IsUnpicked (line : Line) (scripts : List Script) (bytes : List ℕ) (which : Option ℕ)
    (why : Unpicked) : Type 0 where
  pub records : List SeenValues
  pub read : records_said line scripts bytes ≡ Ok records
  pub none : picked which records ≡ Err why

-- why nothing is said: more than 64 scripts; the first fault of the file; a record that is not
-- picked
abbrev pub IsExplainFault : Line → List Script → List ℕ → Option ℕ → ExplainFault → Type 0
IsExplainFault line scripts bytes which (fault.TooManyScripts there) =
    (there ≡ length scripts) × (64 < there)
IsExplainFault line scripts bytes which (fault.Record why) =
    records_said line scripts bytes ≡ Err why
IsExplainFault line scripts bytes which (fault.Unpicked why) =
    IsUnpicked line scripts bytes which why
