use Rattle.std.proofs.Common.{arith}
use Rattle.call_page.specs.Verdicts.{IsVerdictOf}
use Rattle.judge_verdict.specs.verdict.OneEachLaws.{one_next}
use Rattle.call_page.proofs.verdict.verdicts.Goals as goal

pub loop-k-preserved : goal.loop-k-preserved
loop-k-preserved c =
    let known = c.args.known.now in
    one_next (IsVerdictOf known.study.now.line known.study.now.scripts.items known.rows.now
    known.firsts.now c.args.part.start c.args.part.count) c.loop-k.k _
    c.loop-k.verdicts.items c.push.new.self.items c.in_ok-verdict.verdict
    (omega arith) c.in_ok-push.ensures.items c.in_ok-verdict.ensures c.loop-k.invariant
