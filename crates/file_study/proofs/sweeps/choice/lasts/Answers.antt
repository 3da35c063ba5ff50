use Rattle.file_study.proofs.sweeps_lemmas.Sweeping.{lasts_more}
use Rattle.file_study.proofs.sweeps.choice.lasts.Goals as goal

pub loop-stage-preserved : goal.loop-stage-preserved
loop-stage-preserved c =
    rw c.in_ok-push.ensures.items
    (lasts_more c.args.stages.now c.loop-stage.stage-index c.loop-stage.left c.stage-item.result
    c.loop-stage.values.items c.value.result c.rest-left.result _ c.loop-stage-test.true
    c.stage-item.is (rw c.deref.ensures.value at c.value.ensures)
    (rw c.deref-in-loop-stage.ensures.value at c.rest-left.ensures) c.loop-stage.invariant)
