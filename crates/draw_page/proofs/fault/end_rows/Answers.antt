use Rattle.std.proofs.Common.{◌≡◌, ℕ, List, IfOk, subst}
use Rattle.draw_page.proofs.Rows.{row_more}
use Rattle.draw_page.specs.Faults.{end_row_html}
use Rattle.draw_page.proofs.fault.end_rows.Goals as goal

pub loop-verdict-preserved : goal.loop-verdict-preserved
loop-verdict-preserved c =
    subst (λ (t : List ℕ). IfOk c.joined-made.result (λ html. html.text.items ≡ t))
    (row_more (end_row_html c.args.tick_us) _ _ _ c.loop-verdict-test.true c.verdict-item.is)
    (c.joined-made.ensures _ _ c.loop-verdict.invariant c.end_row.ensures)
