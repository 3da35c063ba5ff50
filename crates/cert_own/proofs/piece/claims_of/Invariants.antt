use Rattle.std.proofs.Common.{◌≡◌, map, take}
use Rattle.cert_claims.specs.text.Grammar.{verdict_in}
use Rattle.cert_own.specs.Piece.{written_as}
use Rattle.cert_own.proofs.piece.claims_of.Given as goal

abbrev pub invariant-loop-i : goal.invariant-loop-i
invariant-loop-i l = map verdict_in l.claims.items ≡ map written_as (take l.i l.verdicts)
