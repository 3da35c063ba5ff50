-- The parts of a certificate as they are written, one script after another.
use Rattle.std.specs.Prelude.{List, IfOk, Result}
use Rattle.model_line.specs.{declared.line.Line.Line, declared.script.Script.Script}
use Rattle.cert_claims.specs.{text.Grammar.Claims, text.Text.part_text, text.Text.parts_text}
use Rattle.cert_claims.specs.check.Counts.{all_verdicts}
use Rattle.cert_own.specs.Certified.{AreCertified, IsCertified}
use Rattle.call_pilot.specs.commands.Verdicts.{IsFoundOf}
use Rattle.call_answer.specs.{Sinks.SinkView, Sinks.Writes}
use Rattle.call_pilot.specs.declared.commands.found.Found.{Found}
use Rattle.base_text.specs.declared.store.sink.PutFailed.{PutFailed}
use Rattle.base_memory.specs.declared.stopped.Stopped.{Stopped}

-- the part of what is certified of a script is written, or a front of it, and what is found of its
-- verdicts is told
pub record WritesPart (line : Line) (script : Script) (old new : SinkView)
    (result : Result Found (Stopped PutFailed)) : Type 0 where
  pub claims : Claims
  pub certified : IsCertified line script claims
  pub writes : Writes old new (part_text line script claims) result
  pub found : IfOk result (IsFoundOf claims.verdicts)

-- the parts of what is certified of the scripts are written, or a front of them, and what is found
-- of their verdicts is told
pub record WritesParts (line : Line) (scripts : List Script) (old new : SinkView)
    (result : Result Found (Stopped PutFailed)) : Type 0 where
  pub claims : List Claims
  pub certified : AreCertified line scripts claims
  pub writes : Writes old new (parts_text line scripts claims) result
  pub found : IfOk result (IsFoundOf (all_verdicts claims))
