use Rattle.std.proofs.Common.{arith}
use Rattle.model_line.specs.Parameters.{terminal_count}
use Rattle.judge_verdict.specs.verdict.OneEachLaws.{one_more, all_there}
use Rattle.judge_settle.specs.settle.Answers.{IsAnswered}
use Rattle.judge_settle.proofs.settle.settling.by_corner.Goals as goal

pub loop-k-preserved : goal.loop-k-preserved
loop-k-preserved c =
    one_more (IsAnswered c.args.line.now c.args.script.now) c.loop-k.k
    c.loop-k.settled.items c.push.new.self.items c.in_ok-one.one c.in_ok-push.ensures.items
    c.in_ok-one.ensures c.loop-k.invariant

pub returns : goal.returns
returns c =
    all_there (IsAnswered c.args.line.now c.args.script.now) c.loop-k.k
    (terminal_count c.args.line.now) c.loop-k.settled.items (omega arith) c.loop-k.invariant
