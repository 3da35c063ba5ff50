use Rattle.std.proofs.Common.{List, length, subst, sym}
use Rattle.judge_report.specs.declared.upper_end.Lost.{Lost}
use Rattle.judge_slacks.specs.Lacks.{AreOff}
use Rattle.call_tables.proofs.SlackLaws.{others_off}
use Rattle.call_tables.proofs.margins.margins_table.Goals as goal

pub lacks-requires-clause-off : goal.lacks-requires-clause-off
lacks-requires-clause-off c =
    let line = c.args.study.now.line in
    let scripts = c.as_slice-scripts.result.now in
    subst (λ (l : List Lost). AreOff line scripts l) (sym c.as_slice-others.ensures.value)
    (others_off line scripts (length scripts) 0 c.in_ok-today.today.others.items
    c.in_ok-today.ensures.today.others)
