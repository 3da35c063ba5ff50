-- The command `certify`: its text is the certificate of the scripts, which has the verdict of each
-- obligation and the keys that show it.
use Rattle.std.specs.Prelude.{◌≡◌, ℕ, List, length}
use Rattle.model_line.specs.{declared.line.Line.Line, declared.script.Script.Script}
use Rattle.cert_claims.specs.{text.Grammar.Claims, text.Text.certificate_text}
use Rattle.cert_claims.specs.check.Counts.{all_verdicts}
use Rattle.cert_own.specs.Certified.{AreCertified}
use Rattle.call_engine.specs.Calls.{AskedVerdicts}
use Rattle.call_pilot.specs.{commands.Asked.Asks, commands.Verdicts.verdicts_status}
use Rattle.call_answer.specs.Answers.{Answers}
use Rattle.call_answer.specs.declared.done.Done.{Done}

-- the text of what is certified of the scripts, with the status of its verdicts
pub record IsCertifiedText (line : Line) (scripts : List Script) (s : Done) (text : List ℕ)
    : Type 0 where
  pub claims : List Claims
  pub certified : AreCertified line scripts claims
  pub status_is : s ≡ verdicts_status (all_verdicts claims)
  pub text_is : text ≡ certificate_text line scripts claims

-- the certificate, with the status that its verdicts give
abbrev pub certify_answer : Line → List Script → Answers
certify_answer line scripts = IsCertifiedText line scripts

-- the engine is asked for the verdicts of each script
abbrev pub certify_asks : Line → List Script → Asks
certify_asks line scripts = AskedVerdicts line (length scripts)
