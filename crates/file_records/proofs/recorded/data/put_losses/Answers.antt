use Rattle.std.proofs.Common.{◌++◌, ◌∙◌, Bool, ap}
use Rattle.model_history.specs.EachLaws.{list_more}
use Rattle.file_records.specs.recorded.Data.{level_field, loss_field}
use Rattle.file_records.proofs.recorded.data.put_losses.Goals as goal

pub loop-c-preserved : goal.loop-c-preserved
loop-c-preserved c =
    list_more c.args.text.now.items c.loop-c.text.items c.put_level.new.text.items
    (loss_field c.args.script.now c.args.t) c.loop-c.c
    c.loop-c.invariant
    (c.in_ok-put_level.ensures
    ∙ ap (λ (b : Bool). c.loop-c.text.items ++ level_field b) c.loss.ensures)
