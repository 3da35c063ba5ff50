use Rattle.std.proofs.Common.{◌≡◌, ◌∙◌, false, sym, subst, arith}
use Rattle.std.specs.List.{list_any}
use Rattle.judge_times.specs.Along.{is_unheld_over}
use Rattle.judge_times.specs.Stretches.{IsHeldAlong}
use Rattle.judge_times.proofs.Gaps.{held_gap}
use Rattle.judge_times.proofs.Ticked.{fails_over, held_over}
use Rattle.judge_times.proofs.follow.gap_along.Goals as goal

pub returns-then-not-some_unheld_over-clause-says : goal.returns-then-not-some_unheld_over-clause-says
returns-then-not-some_unheld_over-clause-says c = λ of are.
    let k = c.args.terminal in
    let whole = c.args.whole.now in
    let gap = c.args.gap in
    let none : list_any (is_unheld_over gap.from k) c.args.parts.now ≡ false =
    sym c.some_unheld_over.ensures ∙ c.if-not-some_unheld_over.true in
    let next = c.requires.gap.next in
    held_over of whole k c.held.result gap.from gap.to c.held.ensures.from c.held.ensures.to
    c.held.ensures.told (omega (arith, next))
    (subst (IsHeldAlong of whole k gap.from) (sym next)
    (held_gap of whole k c.args.parts.now are gap.from c.requires.some c.requires.gap.from
    c.requires.gap.to none))

pub returns-then-fails-2-clause-says : goal.returns-then-fails-2-clause-says
returns-then-fails-2-clause-says c = λ of are.
    let whole = c.args.whole.now in
    let first = c.in_ok-first.first in
    let next = c.in_ok-next.next in
    fails_over of whole c.args.terminal first next c.args.gap.from c.args.gap.to c.in_ok-first.ensures.from
    c.in_ok-first.ensures.to c.in_ok-next.ensures.from c.in_ok-next.ensures.to c.requires.gap.next
    (c.fails.ensures c.if-fails.true) (c.fails-then-fails.ensures c.if-fails-2.true)
    (c.in_ok-first.ensures.says of whole are) (c.in_ok-next.ensures.says of whole are)
