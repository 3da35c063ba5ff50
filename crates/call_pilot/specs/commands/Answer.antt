-- What is answered of the first scripts of the bench.
use Rattle.std.specs.Prelude.{◌≡◌, ℕ, List}
use Rattle.model_line.specs.{declared.line.Line.Line, declared.script.Script.Script}
use Rattle.cert_claims.specs.text.Grammar.{Claims}
use Rattle.cert_claims.specs.{declared.check.counts.Counts.Counts, check.Counts.AreCounts, check.Counts.all_verdicts}
use Rattle.cert_own.specs.Certified.{AreCertified}
use Rattle.call_pilot.specs.{commands.BenchLine.IsBenchLine, commands.BenchScripts.AreBenchScripts}
use Rattle.call_pilot.specs.commands.BenchText.{bench_text}

-- the text of the counts of all verdicts that are certified of the first n scripts over the line
pub record IsBenchText (n : ℕ) (text : List ℕ) : Type 0 where
  pub line : Line
  pub is_line : IsBenchLine line
  pub scripts : List Script
  pub are_scripts : AreBenchScripts n scripts
  pub claims : List Claims
  pub certified : AreCertified line scripts claims
  pub counts : Counts
  pub counted : AreCounts (all_verdicts claims) counts
  pub text_is : text ≡ bench_text n counts
