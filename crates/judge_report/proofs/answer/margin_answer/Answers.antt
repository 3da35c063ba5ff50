use Rattle.judge_report.proofs.OneMargin.{lost_exists, script_exists, terminal_exists}
use Rattle.judge_report.proofs.answer.margin_answer.Goals as goal

pub margin_text-requires-clause-script : goal.margin_text-requires-clause-script
margin_text-requires-clause-script c =
    let line = c.args.compiled.now.line.now in
    let scripts = c.args.scripts.now in
    let end = c.in_ok-end.end in
    script_exists line scripts c.args.param end.lost
    (lost_exists line scripts c.args.param end c.in_ok-end.ensures.margin)

pub margin_text-requires-clause-terminal : goal.margin_text-requires-clause-terminal
margin_text-requires-clause-terminal c =
    let line = c.args.compiled.now.line.now in
    let scripts = c.args.scripts.now in
    let end = c.in_ok-end.end in
    terminal_exists line scripts c.args.param end.lost
    (lost_exists line scripts c.args.param end c.in_ok-end.ensures.margin)
