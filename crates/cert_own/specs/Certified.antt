-- What is certified of a script, and of several.
use Rattle.std.specs.Prelude.{◌≡◌, List, map}
use Rattle.std.specs.List.{AllZip}
use Rattle.model_line.specs.{declared.line.Line.Line, declared.script.Script.Script}
use Rattle.model_logic.specs.Histories.{PairHistory, IsPairHistory}
use Rattle.model_logic.specs.Choice.{declared_box}
use Rattle.cert_claims.specs.text.Grammar.{Claims}
use Rattle.judge_verdict.specs.declared.verdict.verdict.Verdict.{Verdict}
use Rattle.cert_own.specs.Piece.{written_as}
use Rattle.judge_verdict.specs.verdict.Verdicts.{AreKeys, AreVerdicts}

-- the claims are the keys of the interval history over the declared intervals and the verdict of
-- each terminal, as they are written
pub record IsCertified (line : Line) (script : Script) (claims : Claims) : Type 0 where
  pub history : PairHistory
  pub is_history : IsPairHistory line script (declared_box line) history
  pub are_keys : AreKeys line history claims.keys
  pub verdicts : List Verdict
  pub are_verdicts : AreVerdicts line script history verdicts
  pub written : claims.verdicts ≡ map written_as verdicts

-- claims for each script, in order
abbrev pub AreCertified : Line → List Script → List Claims → Type 0
AreCertified line scripts claims = AllZip (IsCertified line) scripts claims
