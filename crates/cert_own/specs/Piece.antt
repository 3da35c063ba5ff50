-- A script's part of a certificate, as text.
use Rattle.std.specs.Prelude.{ℕ, List, map}
use Rattle.run_signal.specs.declared.tern.Tern.{Tern}
use Rattle.model_line.specs.{declared.line.Line.Line, declared.script.Script.Script}
use Rattle.cert_claims.specs.text.Grammar.{Claims, Verdict as Written, yes, no, undecided}
use Rattle.cert_claims.specs.text.Text as certificate
use Rattle.judge_verdict.specs.declared.verdict.verdict.Verdict.{Verdict}
use Rattle.judge_verdict.specs.declared.verdict.verdict.Verdict.TheVariants.{Yes, No, Undecided}
use Rattle.judge_verdict.specs.declared.verdict.verdict.ScriptVerdict.{ScriptVerdict}

-- a verdict as it is written: a `no` with the values of all parameters in order
abbrev pub written_as : Verdict → Written
written_as Yes = yes
written_as (No timing) = no timing.values
written_as Undecided = undecided

-- what keys and verdicts claim of a script
abbrev pub claims_of : List (List Tern) → List Verdict → Claims
claims_of keys verdicts = record { keys = keys; verdicts = map written_as verdicts }

-- the part of a script with these keys and verdicts
abbrev pub part_text : Line → Script → List (List Tern) → List Verdict → List ℕ
part_text line script keys verdicts =
    certificate.part_text line script (claims_of keys verdicts)

-- the part of a script of which this is said
abbrev pub piece_text : Line → Script → ScriptVerdict → List ℕ
piece_text line script said = part_text line script said.keys.items said.verdicts.items
