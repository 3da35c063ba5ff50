use Rattle.model_history.specs.EachLaws.{list_more}
use Rattle.file_records.specs.recorded.Config.{terminal_lines}
use Rattle.file_records.proofs.recorded.config.put_terminals.Goals as goal

pub loop-k-preserved : goal.loop-k-preserved
loop-k-preserved c =
    list_more c.args.text.now.items c.loop-k.text.items c.put_terminal.new.text.items
    (terminal_lines c.args.line.now) c.loop-k.k
    c.loop-k.invariant c.in_ok-put_terminal.ensures
