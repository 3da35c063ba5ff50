-- What the table of verdicts says.
use Rattle.std.specs.Prelude.{◌≡◌, ℕ, Bool, true, false, List}
use Rattle.std.specs.List.{list_any}
use Rattle.model_line.specs.{declared.line.Line.Line, declared.script.Script.Script}
use Rattle.file_study.specs.declared.sweeps.group.Group.{Group}
use Rattle.call_answer.specs.{Answers.Answers, Answers.status_by, declared.done.Done.Done}
use Rattle.call_verdicts.specs.{Findings.AreFindings, Records.verdicts_text}
use Rattle.call_verdicts.specs.declared.finding.{Finding.Finding, Standing.Standing}
use Rattle.call_verdicts.specs.declared.finding.Standing.TheVariants.{Held, Fails, Open}

abbrev pub fails_so : Standing → Bool
fails_so Held = false
fails_so (Fails every) = true
fails_so Open = false

-- for every choice
abbrev pub fails_for_every : Standing → Bool
fails_for_every Held = false
fails_for_every (Fails every) = every
fails_for_every Open = false

abbrev pub is_left : Standing → Bool
is_left Held = false
is_left (Fails every) = false
is_left Open = true

abbrev pub is_failing : Finding → Bool
is_failing found = fails_so found.standing

abbrev pub is_open : Finding → Bool
is_open found = is_left found.standing

-- a table in which each obligation has a finding that is so; where more than one can be found,
-- which one it is is left free
pub record AreVerdicts (line : Line) (scripts : List Script) (groups : List Group) (status : Done)
    (text : List ℕ) : Type 0 where
  pub found : List Finding
  pub are : AreFindings line scripts found
  pub status_is : status ≡ status_by (list_any is_failing found) (list_any is_open found)
  pub text_is : text ≡ verdicts_text line scripts groups found

abbrev pub verdicts_answer : Line → List Script → List Group → Answers
verdicts_answer line scripts groups = AreVerdicts line scripts groups
