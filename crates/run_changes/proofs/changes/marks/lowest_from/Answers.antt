use Rattle.std.proofs.Common.{arith, rules}
use Rattle.run_changes.proofs.changes_lemmas.MarkLaws.{none_from, lowest_later, lowest_limited, lowest_passed}
use Rattle.run_changes.proofs.changes.marks.lowest_from.Goals as goal

pub returns-then-rest-eq0-clause-passed : goal.returns-then-rest-eq0-clause-passed
returns-then-rest-eq0-clause-passed c = λ k low high.
    none_from c.args.word c.args.from k c.requires low high c.if-rest-eq0.true

pub returns-clause-later : goal.returns-clause-later
returns-clause-later c =
    lowest_later c.args.word c.args.from c.requires (omega arith) (search rules)

pub returns-clause-limited : goal.returns-clause-limited
returns-clause-limited c = lowest_limited c.args.word c.args.from (omega arith) (search rules)

pub returns-clause-passed : goal.returns-clause-passed
returns-clause-passed c = λ k low high.
    lowest_passed c.args.word c.args.from k c.requires (omega arith) (search rules) low high
