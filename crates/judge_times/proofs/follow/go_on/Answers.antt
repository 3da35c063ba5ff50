use Rattle.std.proofs.lemmas.Result.{IfOk-weaker}
use Rattle.judge_times.proofs.follow.go_on.Goals as goal

pub returns-then-fails-clause-says : goal.returns-then-fails-clause-says
returns-then-fails-clause-says c =
    let whole = c.args.whole.now in
    let k = c.args.terminal in
    IfOk-weaker c.joined-then-fails.result _ _
    (λ one says of are all last.
    let behind = c.in_ok-behind.ensures.says of whole k all last (c.in_ok-along.ensures.says of are) in
    says of whole k behind.0 behind.1 (c.in_ok-tick.ensures.says of whole are))
    c.joined-then-fails.ensures.says

pub returns-else-fails-clause-says : goal.returns-else-fails-clause-says
returns-else-fails-clause-says c = λ of are all last.
    c.in_ok-behind.ensures.says of c.args.whole.now c.args.terminal all last
    (c.in_ok-along.ensures.says of are)
