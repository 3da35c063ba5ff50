use Rattle.std.proofs.Common.{◌<◌, length, ap, arith}
use Rattle.call_refused.proofs.OneLines.{told_line, told_at}
use Rattle.call_refused.proofs.told.one_line.told.Goals as goal

pub returns-clause-on : goal.returns-clause-on
returns-clause-on c =
    let same = ap length c.as_bytes.ensures.value in
    let some : 0 < length c.as_bytes.result.now = omega (arith, same, c.requires.some) in
    told_line c.args.name.now c.args.bytes.now c.args.at c.as_bytes.result.now
    c.deref.result.now c.new-text.result.items _ _ _ _
    some c.new-text.ensures.items c.in_ok-push_place.ensures
    c.in_ok-push_within.ensures c.in_ok-push_within-2.ensures c.in_ok-push.ensures.items

pub returns-clause-told : goal.returns-clause-told
returns-clause-told c =
    told_at c.args.name.now c.args.bytes.now c.args.at _ c.requires.within (returns-clause-on c)
