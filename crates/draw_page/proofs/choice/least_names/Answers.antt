use Rattle.std.proofs.Common.{◌≡◌, ℕ, List, IfOk, subst}
use Rattle.draw_page.proofs.Rows.{row_more}
use Rattle.draw_page.specs.Choices.{least_name_html}
use Rattle.draw_page.proofs.choice.least_names.Goals as goal

pub loop-name-preserved : goal.loop-name-preserved
loop-name-preserved c =
    subst (λ (t : List ℕ). IfOk c.joined-made.result (λ html. html.text.items ≡ t))
    (row_more (least_name_html) _ _ _ c.loop-name-test.true c.name-item.is)
    (c.joined-made.ensures _ _ c.loop-name.invariant (rw c.as_slice.ensures.value at c.least_name.ensures))
