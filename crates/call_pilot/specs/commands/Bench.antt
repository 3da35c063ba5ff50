-- The command `bench`: the verdicts of the bench's first scripts are counted, and their certificate
-- is accepted.
use Rattle.std.specs.Prelude.{◌≡◌, ◌++◌, ℕ, List}
use Rattle.model_line.specs.{declared.line.Line.Line, declared.script.Script.Script}
use Rattle.cert_claims.specs.{text.Grammar.Claims, text.Text.certificate_text, text.Text.part_text}
use Rattle.cert_own.specs.Certified.{AreCertified, IsCertified}
use Rattle.call_pilot.specs.commands.BenchLine.{IsBenchLine}
use Rattle.call_pilot.specs.commands.Answer.{IsBenchText}
use Rattle.call_engine.specs.Calls.{AskedCheck, AskedVerdicts}
use Rattle.call_pilot.specs.commands.Asked.{Asks}
use Rattle.call_answer.specs.{Answers.Answers, Answers.prints}

abbrev pub bench_answer : ℕ → Answers
bench_answer n = prints (IsBenchText n)

-- the engine is asked for the verdicts of each script of the bench's line, and for a check
abbrev pub bench_asks : ℕ → Asks
bench_asks n old new =
    (line : Line) × IsBenchLine line × AskedVerdicts line n old new × AskedCheck line old new

-- the text of what is certified of the scripts
pub record IsOwnText (line : Line) (scripts : List Script) (text : List ℕ) : Type 0 where
  pub claims : List Claims
  pub certified : AreCertified line scripts claims
  pub text_is : text ≡ certificate_text line scripts claims

-- a text has more by the part of what is certified of a script
pub record HasPart (line : Line) (script : Script) (old new : List ℕ) : Type 0 where
  pub claims : Claims
  pub certified : IsCertified line script claims
  pub text_is : new ≡ old ++ part_text line script claims
