use Rattle.draw_run.specs.layout.Rows.{step_mark}
use Rattle.draw_run.proofs.layout_lemmas.Lists.{flat_more}
use Rattle.draw_run.proofs.layout.row.put_step_marks.Goals as goal

pub loop-mark-preserved : goal.loop-mark-preserved
loop-mark-preserved c =
    flat_more (step_mark c.args.scale c.args.base) _ _ _ c.args.marks.now c.loop-mark.mark-index 0
    c.loop-mark-test.true c.loop-mark.invariant c.in_ok-put_step_mark.ensures
