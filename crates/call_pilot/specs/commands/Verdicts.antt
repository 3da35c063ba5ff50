-- What verdicts come to: the status of an answer, and what is found of them on the way.
use Rattle.std.specs.Prelude.{◌≡◌, List}
use Rattle.std.specs.List.{list_any}
use Rattle.cert_claims.specs.text.Grammar.{Verdict}
use Rattle.cert_claims.specs.check.Counts.{is_no, is_undecided}
use Rattle.call_answer.specs.{Answers.status_by, declared.done.Done.Done}
use Rattle.call_pilot.specs.declared.commands.found.Found.{Found}

-- the status of these verdicts
abbrev pub verdicts_status : List Verdict → Done
verdicts_status verdicts = status_by (list_any is_no verdicts) (list_any is_undecided verdicts)

-- this is found of these verdicts
pub record IsFoundOf (verdicts : List Verdict) (found : Found) : Type 0 where
  pub no : found.some_no ≡ list_any is_no verdicts
  pub undecided : found.some_open ≡ list_any is_undecided verdicts
