use Rattle.std.proofs.Common.{◌≡◌, ◌++◌, ◌∙◌, ℕ, length, ap, arith}
use Rattle.csv.specs.Writing.{row_text, default_writer}
use Rattle.call_tables.specs.Slacks.{slack_rows, slacks_header}
use Rattle.call_tables.proofs.SlackLaws.{rows_more}
use Rattle.call_tables.proofs.slacks.slacks_text.Goals as goal

pub loop-place-preserved : goal.loop-place-preserved
loop-place-preserved c =
    rows_more c.args.line.now c.args.scripts.now c.args.ends.now c.args.lacks.now
    (row_text default_writer slacks_header) c.loop-place.text.items c.push_row.new.text.items
    c.loop-place.place c.loop-place.invariant c.in_ok-push_row.ensures

pub returns : goal.returns
returns c =
    let last : c.loop-place.place ≡ length c.args.ends.now =
    omega (arith, c.loop-place-test.false, c.loop-place.auto.place-end) in
    c.loop-place.invariant
    ∙ ap (λ (n : ℕ). row_text default_writer slacks_header
    ++ slack_rows c.args.line.now c.args.scripts.now c.args.ends.now c.args.lacks.now n) last
