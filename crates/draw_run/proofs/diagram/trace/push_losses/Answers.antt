use Rattle.model_history.specs.EachLaws.{list_more}
use Rattle.draw_run.specs.diagram.Traces.{loss_at}
use Rattle.draw_run.proofs.diagram.trace.push_losses.Goals as goal

pub loop-c-preserved : goal.loop-c-preserved
loop-c-preserved c =
    list_more _ _ _ (loss_at c.args.line.now c.args.k) c.loop-c.c c.loop-c.invariant
    c.in_ok-push_loss.ensures
