use Rattle.std.proofs.Common.{length, get_or, sym, arith, eq-eqb}
use Rattle.std.proofs.lemmas.List.Sums.{position_or_len_is}
use Rattle.file_tables.specs.timing.Checks.{is_at}
use Rattle.file_tables.proofs.timing.check.place_of_at.Goals as goal

pub returns-then-b-eq64-clause-place : goal.returns-then-b-eq64-clause-place
returns-then-b-eq64-clause-place c =
    sym (position_or_len_is is_at c.args.field.now c.loop-i.i 0 (omega arith) c.loop-i.invariant
    (λ _. eq-eqb (get_or c.args.field.now c.loop-i.i 0) 64 c.if-b-eq64.true))

pub returns-clause-place : goal.returns-clause-place
returns-clause-place c =
    sym (position_or_len_is is_at c.args.field.now (length c.args.field.now) 0 (omega arith)
    (λ k below. c.loop-i.invariant k (omega arith)) (λ inside. absurd (omega arith)))
