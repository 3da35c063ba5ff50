-- What can be written of a script.
use Rattle.std.specs.Prelude.{◌≡◌, [], length}
use Rattle.model_line.specs.Parameters.{terminal_count, param_count}
use Rattle.model_line.specs.declared.line.Line.{Line}
use Rattle.judge_verdict.specs.declared.verdict.verdict.Verdict.{Verdict}
use Rattle.judge_verdict.specs.declared.verdict.verdict.Verdict.TheVariants.{Yes, No, Undecided}
use Rattle.judge_verdict.specs.{verdict.OneEach.OneEach, declared.verdict.verdict.ScriptVerdict.ScriptVerdict}

-- a timing is written with one number for each parameter, and has no steps
abbrev pub IsWritten : Line → Verdict → Type 0
IsWritten line Yes = Unit {0}
IsWritten line (No timing) = (length timing.values ≡ param_count line) × (timing.steps ≡ [])
IsWritten line Undecided = Unit {0}

-- one wave of the horizon's length and one verdict for each terminal
pub record IsPrintable (line : Line) (said : ScriptVerdict) : Type 0 where
  pub keys : OneEach (λ k wave. length wave ≡ line.horizon) (terminal_count line) said.keys.items
  pub verdicts : OneEach (λ k verdict. IsWritten line verdict) (terminal_count line)
      said.verdicts.items
