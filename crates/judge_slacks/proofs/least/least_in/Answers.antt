use Rattle.std.proofs.Common.{Option, subst, arith}
use Rattle.judge_slacks.specs.Asked.{IsCloser, TellsCloser}
use Rattle.judge_slacks.specs.declared.asked.Gap.{Gap}
use Rattle.judge_slacks.proofs.NeedLaws.{least_is}
use Rattle.judge_slacks.proofs.least.least_in.Goals as goal

pub returns-in-Some : goal.returns-in-Some
returns-in-Some c =
    let of = c.args.of.now in
    let closer : IsCloser of c.args.coarse c.in-Some.fine =
    subst (λ (o : Option Gap). TellsCloser of c.args.coarse o) c.in-Some.is c.in_ok-fine.ensures in
    let narrow = closer.narrow in
    least_is c.laws_below.ensures of c.requires.asked c.in-Some.fine closer.is closer.held
    (omega (arith, narrow, c.requires.narrow))
