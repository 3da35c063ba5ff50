use Rattle.std.proofs.Common.{◌≡◌, ℕ, List, IfOk, subst}
use Rattle.draw_page.proofs.Rows.{row_more}
use Rattle.draw_page.specs.Matrices.{verdict_cells_html}
use Rattle.draw_page.proofs.matrices.verdict_cells.Goals as goal

pub loop-verdict-preserved : goal.loop-verdict-preserved
loop-verdict-preserved c =
    subst (λ (t : List ℕ). IfOk c.joined-made.result (λ html. html.text.items ≡ t))
    (row_more (verdict_cells_html c.args.tick_us) _ _ _ c.loop-verdict-test.true c.verdict-item.is)
    (c.joined-made.ensures _ _ c.loop-verdict.invariant c.three_cells.ensures)
