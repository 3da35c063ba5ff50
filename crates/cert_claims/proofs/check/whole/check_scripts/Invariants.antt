use Rattle.std.proofs.Common.{map}
use Rattle.cert_claims.specs.text.Grammar.{claims_in}
use Rattle.cert_claims.specs.{check.Scripts.EachBelow, check.Verdicts.AreAccepted, check.Verdicts.AreSoundClaims}
use Rattle.cert_claims.proofs.check.whole.check_scripts.Given as goal

abbrev pub invariant-loop-i : goal.invariant-loop-i
invariant-loop-i l = record {
  accepted : EachBelow (AreAccepted l.compiled.line.now) l.scripts (map claims_in l.claims) l.i;
  sound : EachBelow (AreSoundClaims l.compiled.line.now) l.scripts (map claims_in l.claims) l.i;
}
