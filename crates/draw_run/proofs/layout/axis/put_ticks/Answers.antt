use Rattle.model_history.specs.EachLaws.{list_more}
use Rattle.draw_run.specs.layout.Axis.{round_tick}
use Rattle.draw_run.proofs.layout.axis.put_ticks.Goals as goal

pub loop-t-preserved : goal.loop-t-preserved
loop-t-preserved c =
    list_more _ _ _ (round_tick c.args.of.now c.args.scale c.args.top c.args.bottom) c.loop-t.t
    c.loop-t.invariant c.in_ok-put_if_round.ensures
