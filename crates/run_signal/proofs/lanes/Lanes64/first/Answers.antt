use Rattle.std.proofs.Common.{ℕ, ◌<◌, IsTrue, IsFalse, arith, ap, subst, eqb, w64}
use Rattle.std.proofs.lemmas.Nat.Bits.{bit_at-trailing_zeros}
use Rattle.std.specs.Int.{trailing_zeros}
use Rattle.run_signal.specs.Bits.{bit_on}
use Rattle.run_signal.proofs.lanes.Lanes64.first.Goals as goal

pub returns-clause-on : goal.returns-clause-on
returns-clause-on c = λ less.
    let n = c.bits-bits.result in
    let some : 0 < n = omega (arith, c.if-bits-eq0.false) in
    let lowest = bit_at-trailing_zeros w64 n some c.bits-bits.type_inv in
    subst (λ (m : ℕ). IsTrue (bit_on m (trailing_zeros w64 n))) c.bits-bits.ensures
    (ap (λ (b : ℕ). eqb b 1) lowest.1)

pub returns-clause-off : goal.returns-clause-off
returns-clause-off c = λ k inside before.
    let n = c.bits-bits.result in
    let some : 0 < n = omega (arith, c.if-bits-eq0.false) in
    let lowest = bit_at-trailing_zeros w64 n some c.bits-bits.type_inv in
    subst (λ (m : ℕ). IsFalse (bit_on m k)) c.bits-bits.ensures
    (ap (λ (b : ℕ). eqb b 1) (lowest.2 k before))
