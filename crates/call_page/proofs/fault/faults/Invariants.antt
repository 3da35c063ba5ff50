use Rattle.std.proofs.Common.{take}
use Rattle.call_page.specs.Faults.{IsFaultOf}
use Rattle.call_facts.specs.Lists.{EachOf}
use Rattle.call_page.proofs.fault.faults.Given as goal

abbrev pub invariant-loop-part : goal.invariant-loop-part
invariant-loop-part l =
    EachOf (IsFaultOf l.known.study.now.line l.known.study.now.scripts.items l.known.groups.now
    l.known.rows.now l.known.firsts.now) (take l.part-index l.parts) l.faults.items
