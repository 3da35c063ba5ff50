use Rattle.std.proofs.Common.{map}
use Rattle.cert_split.specs.text.Reading.{result_in}
use Rattle.cert_claims.specs.check.Firsts.{EachOf}
use Rattle.cert_split.specs.check.Results.{IsSupported}
use Rattle.cert_split.proofs.check.result.check_results.Given as goal

abbrev pub invariant-loop-i : goal.invariant-loop-i
invariant-loop-i l = EachOf (IsSupported l.compiled.line.now l.script) (map result_in l.results) l.i
