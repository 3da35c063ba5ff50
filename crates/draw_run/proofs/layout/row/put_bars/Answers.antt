use Rattle.draw_run.specs.layout.Rows.{bar_if_any}
use Rattle.draw_run.proofs.layout_lemmas.Lists.{flat_more}
use Rattle.draw_run.proofs.layout.row.put_bars.Goals as goal

pub loop-stretch-preserved : goal.loop-stretch-preserved
loop-stretch-preserved c =
    flat_more (bar_if_any c.args.scale c.args.trace c.args.base) _ _ _ c.args.stretches.now
    c.loop-stretch.stretch-index _ c.loop-stretch-test.true c.loop-stretch.invariant
    c.in_ok-put_bar.ensures
