use Rattle.draw_run.specs.diagram.Times.{trip_times_of}
use Rattle.draw_run.proofs.diagram_lemmas.Lists.{tick_more}
use Rattle.draw_run.proofs.diagram.times.trips.Goals as goal

pub loop-k-preserved : goal.loop-k-preserved
loop-k-preserved g c =
    tick_more
    (λ k. trip_times_of c.args.script.now c.args.line.now.horizon
    ((g.H.Shown.pairs c.args.shown.now).trip k))
    c.loop-k.k _ _ _ c.loop-k.invariant c.in_ok-push.ensures.items c.trip_times.ensures
