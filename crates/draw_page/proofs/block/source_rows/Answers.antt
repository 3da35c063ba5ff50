use Rattle.std.proofs.Common.{◌≡◌, ℕ, List, IfOk, subst}
use Rattle.draw_page.proofs.Rows.{row_more}
use Rattle.draw_page.specs.Blocks.{source_row_html}
use Rattle.draw_page.proofs.block.source_rows.Goals as goal

pub loop-source-preserved : goal.loop-source-preserved
loop-source-preserved c =
    subst (λ (t : List ℕ). IfOk c.joined-made.result (λ html. html.text.items ≡ t))
    (row_more source_row_html _ _ _ c.loop-source-test.true c.source-item.is)
    (c.joined-made.ensures _ _ c.loop-source.invariant c.source_row.ensures)
