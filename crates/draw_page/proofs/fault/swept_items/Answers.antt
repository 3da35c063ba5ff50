use Rattle.std.proofs.Common.{◌≡◌, ℕ, List, IfOk, subst}
use Rattle.draw_page.proofs.Rows.{row_more}
use Rattle.draw_page.specs.Faults.{swept_item_html}
use Rattle.draw_page.proofs.fault.swept_items.Goals as goal

pub loop-one-preserved : goal.loop-one-preserved
loop-one-preserved c =
    subst (λ (t : List ℕ). IfOk c.joined-made.result (λ html. html.text.items ≡ t))
    (row_more (λ one. swept_item_html one.items) _ _ _ c.loop-one-test.true c.one-item.is)
    (c.joined-made.ensures _ _ c.loop-one.invariant (rw c.as_slice.ensures.value at c.swept_item.ensures))
