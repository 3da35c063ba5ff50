use Rattle.std.proofs.Common.{sym, ◌∙◌}
use Rattle.model_line.specs.Parameters.{terminal_count}
use Rattle.call_races.specs.Races.{AtTerminals, is_external}
use Rattle.call_races.proofs.Telling.{adds_if_not}
use Rattle.call_races.proofs.faults.push_fault.Goals as goal

pub returns-else-is_external : goal.returns-else-is_external
returns-else-is_external c =
    let line = c.args.compiled.now.line.now in
    adds_if_not (is_external c.args.scripts.now)
    (AtTerminals line c.args.group.now c.args.scripts.now (terminal_count line)) c.args.text.now.items
    (sym c.is_external.ensures ∙ c.if-is_external.false)
