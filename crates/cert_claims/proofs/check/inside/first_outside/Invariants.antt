use Rattle.std.proofs.Common.{ℕ, ◌<◌}
use Rattle.cert_claims.specs.check.Refutations.{IsNumberIn}
use Rattle.cert_claims.proofs.check.inside.first_outside.Given as goal

abbrev pub invariant-loop-param : goal.invariant-loop-param
invariant-loop-param l = (i : ℕ) → i < l.param → IsNumberIn l.line l.values i
