use Rattle.std.proofs.Common.{map}
use Rattle.cert_claims.specs.check.Scripts.{EachBelow}
use Rattle.cert_settle.specs.Reading.{results_in}
use Rattle.cert_settle.specs.Results.{AreSupported, AreTold}
use Rattle.cert_settle.proofs.whole.check_scripts.Given as goal

abbrev pub invariant-loop-i : goal.invariant-loop-i
invariant-loop-i l = record {
  supported : EachBelow (AreSupported l.compiled.line.now) l.scripts (map results_in l.parts) l.i;
  told : EachBelow (AreTold l.compiled.line.now) l.scripts (map results_in l.parts) l.i;
}
