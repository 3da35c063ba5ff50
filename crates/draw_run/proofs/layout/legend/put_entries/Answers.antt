use Rattle.draw_run.specs.declared.layout.bar.Bar.TheVariants as look
use Rattle.draw_run.specs.layout.Legend.{entry_if_any}
use Rattle.draw_run.proofs.layout_lemmas.Lists.{flat_more}
use Rattle.draw_run.proofs.layout.legend.put_entries.Goals as goal

pub loop-bar-preserved : goal.loop-bar-preserved
loop-bar-preserved c =
    flat_more (entry_if_any c.args.rows.now c.args.top) _ _ _ c.args.bars.now c.loop-bar.bar-index
    look.Seen c.loop-bar-test.true c.loop-bar.invariant c.in_ok-put_entry_if_any.ensures
