use Rattle.std.proofs.Common.{◌-◌, ◌*◌, ◌<◌, ◌≤◌, sym, ◌∙◌, arith}
use Rattle.std.proofs.lemmas.Bool.{leb-true, leb-false}
use Rattle.file_study.specs.declared.times.fraction.Fraction.{Fraction}
use Rattle.file_study.proofs.times_lemmas.Swept.{no_value, counted}
use Rattle.file_study.proofs.times.time.Sweep.count.Goals as goal

pub returns-then-not-is_at_most : goal.returns-then-not-is_at_most
returns-then-not-is_at_most c i =
    let above : c.args.self.last.over * c.args.self.first.under
    < c.args.self.first.over * c.args.self.last.under =
    leb-false _ _ (sym c.is_at_most.ensures.is ∙ c.if-not-is_at_most.true) in (
      λ below. absurd (omega arith),
      λ most. absurd (no_value c.args.self c.requires.2.some above i most),
    )

pub returns : goal.returns
returns c =
    let first : Fraction = c.args.self.first in
    let last : Fraction = c.args.self.last in
    let most : first.over * last.under ≤ last.over * first.under =
    leb-true _ _ (sym c.is_at_most.ensures.is ∙ c.if-not-is_at_most.false) in
    rw c.less-way.ensures (counted c.args.self (last.over * first.under - first.over * last.under)
    c.requires.1.some c.requires.0.some c.requires.3 (omega arith))
