use Rattle.std.proofs.Common.{◌≡◌, length, sym, arith, eq-eqb}
use Rattle.std.proofs.lemmas.List.Sums.{position_or_len_is}
use Rattle.std.specs.Prelude.{◌==◌}
use Rattle.base_text.proofs.lines.find.find_byte.Goals as goal

pub returns-then-other-byte-clause-place : goal.returns-then-other-byte-clause-place
returns-then-other-byte-clause-place c =
    sym (position_or_len_is (λ other. other == c.args.byte) c.args.text.now c.loop-i.i 0
    c.loop-i.invariant.0 c.loop-i.invariant.1 (λ _. eq-eqb _ c.args.byte c.if-other-byte.true))

pub returns-clause-place : goal.returns-clause-place
returns-clause-place c =
    let all : c.loop-i.i ≡ length c.args.text.now = omega arith in
    sym (position_or_len_is (λ other. other == c.args.byte) c.args.text.now (length c.args.text.now)
    0 (omega arith) (λ k lt. c.loop-i.invariant.1 k (omega arith)) (λ lt. absurd (omega arith)))
