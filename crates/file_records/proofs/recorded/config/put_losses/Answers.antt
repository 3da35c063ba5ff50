use Rattle.model_history.specs.EachLaws.{list_more}
use Rattle.file_records.specs.recorded.Config.{loss_line}
use Rattle.file_records.proofs.recorded.config.put_losses.Goals as goal

pub loop-c-preserved : goal.loop-c-preserved
loop-c-preserved c =
    list_more c.args.text.now.items c.loop-c.text.items c.put_loss.new.text.items
    (loss_line c.args.line.now) c.loop-c.c
    c.loop-c.invariant c.in_ok-put_loss.ensures
