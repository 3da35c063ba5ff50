use Rattle.std.proofs.Common.{arith}
use Rattle.judge_margins.specs.map.PlaceLaws.{can_place}
use Rattle.judge_margins.proofs.map.spans.moved_ends.Goals as goal

pub returns-clause-limit : goal.returns-clause-limit
returns-clause-limit c =
    let can = can_place c.args.line.now c.args.axis.now c.args.place c.args.param c.requires.can
    c.requires.place c.requires.moves in
    let within = can.within in omega (arith, within)
