use Rattle.std.proofs.Common.{length, sym, arith, ap, not, ne_eqb}
use Rattle.std.proofs.lemmas.List.Sums.{position_or_len_is}
use Rattle.file_study.specs.times.Words.{is_no_space}
use Rattle.file_study.proofs.times.word.leading_spaces.Goals as goal

pub returns-then-byte-ne32-clause-is : goal.returns-then-byte-ne32-clause-is
returns-then-byte-ne32-clause-is c =
    sym (position_or_len_is is_no_space c.args.text.now c.loop-i.i 0
    (omega arith) c.loop-i.invariant (λ _. ap not (ne_eqb _ 32 c.if-byte-ne32.true)))

pub returns-clause-is : goal.returns-clause-is
returns-clause-is c =
    sym (position_or_len_is is_no_space c.args.text.now (length c.args.text.now) 0
    (omega arith) (λ k lt. c.loop-i.invariant k (omega arith)) (λ lt. absurd (omega arith)))
