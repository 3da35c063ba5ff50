use Rattle.std.proofs.Common.{arith}
use Rattle.judge_verdict.specs.verdict.OneEachLaws.{one_more, all_there}
use Rattle.judge_races.specs.Lacks.{Lacks}
use Rattle.judge_races.proofs.lacks.column.Goals as goal

pub loop-t-preserved : goal.loop-t-preserved
loop-t-preserved c = record {
  columns = λ u are.
      one_more (Lacks u c.args.pickup) c.loop-t.t c.loop-t.column.items c.push.new.self.items
      c.lack.result c.in_ok-push.ensures.items
      (c.lack.ensures u c.args.pickup
      (c.last_at-last.ensures u are (c.loop-t.invariant.last u are)))
      (c.loop-t.invariant.columns u are);
  last = λ u are. c.last_at-last.ensures u are (c.loop-t.invariant.last u are);
}

pub returns : goal.returns
returns c = λ u are.
    all_there (Lacks u c.args.pickup) c.loop-t.t _ c.loop-t.column.items
    (omega (arith, c.loop-t-test.false, c.loop-t.auto.t-end)) (c.loop-t.invariant.columns u are)
