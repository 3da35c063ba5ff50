use Rattle.std.proofs.Common.{sym, ◌∙◌}
use Rattle.std.proofs.lemmas.List.{append-nil}
use Rattle.csv.specs.Writing.{row_text, default_writer}
use Rattle.call_verdicts.specs.Records.{header_record}
use Rattle.call_verdicts.proofs.Found.{script_exists, terminal_exists}
use Rattle.call_verdicts.proofs.table.table_text.Goals as goal

pub loop-one-init : goal.loop-one-init
loop-one-init c =
    (rw c.new-text.ensures.items at c.in_ok-push_header.ensures)
    ∙ sym (append-nil (row_text default_writer header_record))

pub push_finding-requires-clause-script : goal.push_finding-requires-clause-script
push_finding-requires-clause-script c =
    script_exists c.args.cases.now.compiled.line.now c.args.cases.now.scripts.now c.args.found.now
    c.loop-one.one-index _ c.requires c.loop-one-test.true

pub push_finding-requires-clause-terminal : goal.push_finding-requires-clause-terminal
push_finding-requires-clause-terminal c =
    terminal_exists c.args.cases.now.compiled.line.now c.args.cases.now.scripts.now c.args.found.now
    c.loop-one.one-index _ c.requires c.loop-one-test.true
