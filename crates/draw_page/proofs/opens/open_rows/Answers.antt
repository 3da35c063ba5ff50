use Rattle.std.proofs.Common.{◌≡◌, ℕ, List, IfOk, subst}
use Rattle.draw_page.proofs.Rows.{row_more}
use Rattle.draw_page.specs.Opens.{open_row_html}
use Rattle.draw_page.proofs.opens.open_rows.Goals as goal

pub loop-one-preserved : goal.loop-one-preserved
loop-one-preserved c =
    subst (λ (t : List ℕ). IfOk c.joined-made.result (λ html. html.text.items ≡ t))
    (row_more (open_row_html) _ _ _ c.loop-one-test.true c.one-item.is)
    (c.joined-made.ensures _ _ c.loop-one.invariant c.open_row.ensures)
