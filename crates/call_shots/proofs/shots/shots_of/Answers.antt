use Rattle.std.proofs.Common.{◌++◌, arith}
use Rattle.call_shots.specs.Shots.{shots_from}
use Rattle.call_shots.proofs.Shares.{shots_more}
use Rattle.call_shots.proofs.shots.shots_of.Goals as goal

pub loop-group-preserved : goal.loop-group-preserved
loop-group-preserved c =
    let line = c.args.cases.now.compiled.line.now in
    let scripts = c.args.cases.now.scripts.now in
    record {
      within = omega (arith, c.end_of-end.ensures);
      left = shots_more line scripts c.args.cases.now.groups.now c.args.found.now
          c.loop-group.group-index c.loop-group.start c.end_of-end.result c.group-item.result
          c.loop-group.shots.items c.push_fault.new.shots.items
          (shots_from line scripts c.args.cases.now.groups.now c.args.found.now)
          c.loop-group-test.true c.group-item.is c.loop-group.invariant.within c.end_of-end.ensures
          c.in_ok-push_fault.ensures c.loop-group.invariant.left;
    }
