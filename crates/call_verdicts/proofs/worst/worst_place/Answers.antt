use Rattle.std.proofs.Common.{◌≡◌, length, arith}
use Rattle.call_verdicts.proofs.Worsts.{worst_of_all}
use Rattle.call_verdicts.proofs.worst.worst_place.Goals as goal

pub returns : goal.returns
returns c =
    let all : c.loop-i.i ≡ length c.args.verdicts.now = omega arith in
    worst_of_all c.args.horizon c.args.verdicts.now c.loop-i.i c.loop-i.worst all
    c.loop-i.invariant
