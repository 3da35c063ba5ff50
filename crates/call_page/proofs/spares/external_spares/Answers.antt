use Rattle.std.proofs.Common.{arith}
use Rattle.call_facts.specs.Spares.{IsSpareOf}
use Rattle.judge_verdict.specs.verdict.OneEachLaws.{one_next}
use Rattle.call_page.proofs.spares.external_spares.Goals as goal

pub loop-k-preserved : goal.loop-k-preserved
loop-k-preserved c =
    one_next (IsSpareOf c.args.compiled.now.line.now c.args.own.now) c.loop-k.k _
    c.loop-k.spares.items c.push.new.self.items c.in_ok-spare.spare
    (omega arith) c.in_ok-push.ensures.items
    ((rw c.as_slice.ensures.value at c.in_ok-spare.ensures) c.args.own.now c.in_ok-waves.ensures.are) c.loop-k.invariant
