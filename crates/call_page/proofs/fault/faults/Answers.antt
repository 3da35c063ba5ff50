use Rattle.call_page.specs.Faults.{IsFaultOf}
use Rattle.call_facts.specs.SideLaws.{each_more}
use Rattle.call_page.proofs.fault.faults.Goals as goal

pub loop-part-preserved : goal.loop-part-preserved
loop-part-preserved c =
    let known = c.args.known.now in
    each_more
    (IsFaultOf known.study.now.line known.study.now.scripts.items known.groups.now
    known.rows.now known.firsts.now) c.args.parts.now c.loop-part.faults.items
    c.push.new.self.items c.loop-part.part-index _ c.in_ok-fault.fault c.loop-part-test.true
    c.in_ok-push.ensures.items c.in_ok-fault.ensures c.loop-part.invariant
