use Rattle.std.proofs.Common.{◌≡◌, ◌∙◌, false, sym, arith}
use Rattle.std.proofs.lemmas.Result.{IfOk-weaker}
use Rattle.std.specs.List.{list_any}
use Rattle.judge_times.specs.Along.{is_unheld}
use Rattle.judge_times.proofs.Gaps.{held_point}
use Rattle.judge_times.proofs.Ticked.{held_over}
use Rattle.judge_times.proofs.follow.begin.Goals as goal

pub returns-then-not-some_unheld-clause-says : goal.returns-then-not-some_unheld-clause-says
returns-then-not-some_unheld-clause-says c = λ of are.
    let k = c.args.terminal in
    let t = c.least-least.result in
    let none : list_any (is_unheld k) c.args.parts.now ≡ false =
    sym c.some_unheld.ensures ∙ c.if-not-some_unheld.true in
    held_over of c.args.whole.now k c.held.result t t c.held.ensures.from c.held.ensures.to
    c.held.ensures.told (omega arith) (held_point of c.args.whole.now k c.args.parts.now are none t)

pub returns-clause-says : goal.returns-clause-says
returns-clause-says c =
    IfOk-weaker c.tick_along.result _ _ (λ one says of are. says of c.args.whole.now are)
    c.tick_along.ensures.says
