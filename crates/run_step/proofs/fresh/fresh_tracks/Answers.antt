use Rattle.std.proofs.Common.{◌+◌, sym, subst}
use Rattle.run_step.specs.Ticks.{AreFresh}
use Rattle.run_step.specs.SendLaws.{fresh_more}
use Rattle.run_step.proofs.fresh.fresh_tracks.Goals as goal

pub loop-preserved : goal.loop-preserved
loop-preserved g c =
    subst (AreFresh (c.loop.counter + 1) c.args.horizon) (sym c.in_ok-push.ensures.items)
    (fresh_more c.loop.counter c.args.horizon c.loop.tracks.items c.in_ok-fresh_track.field-0
    c.in_ok-fresh_track.ensures c.loop.invariant)
