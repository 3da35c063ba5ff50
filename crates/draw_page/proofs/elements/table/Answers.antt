use Rattle.draw_page.specs.Elements.{table_html}
use Rattle.draw_page.proofs.elements.table.Goals as goal

pub returns : goal.returns
unfolding table_html
returns c =
    λ h r head rows.
    c.classed_around.ensures _ (c.classed_around-table.ensures _
    (c.joined-all.ensures _ _ head (c.around.ensures _ rows)))
