use Rattle.model_history.specs.EachLaws.{list_more}
use Rattle.file_records.specs.recorded.Map.{recorder_text}
use Rattle.file_records.proofs.recorded.map.put_recorders.Goals as goal

pub loop-k-preserved : goal.loop-k-preserved
loop-k-preserved c =
    list_more c.args.text.now.items c.loop-k.text.items c.put_recorder.new.text.items
    (recorder_text c.args.line.now c.args.name.now) c.loop-k.k
    c.loop-k.invariant c.in_ok-put_recorder.ensures
