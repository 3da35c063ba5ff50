use Rattle.model_history.specs.EachLaws.{list_more}
use Rattle.draw_shapes.specs.Cells.{bars_at}
use Rattle.draw_shapes.proofs.border.put_border.Goals as goal

pub loop-place-preserved : goal.loop-place-preserved
loop-place-preserved c =
    list_more _ _ _ (bars_at c.args.scale c.args.cells.now) c.loop-place.place
    c.loop-place.invariant c.in_ok-put_bars.ensures
