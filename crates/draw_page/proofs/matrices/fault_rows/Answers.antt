use Rattle.std.proofs.Common.{◌≡◌, ℕ, List, IfOk, subst}
use Rattle.draw_page.proofs.Rows.{place_more}
use Rattle.draw_page.specs.Matrices.{fault_row_html}
use Rattle.draw_page.proofs.matrices.fault_rows.Goals as goal

pub loop-place-preserved : goal.loop-place-preserved
loop-place-preserved c =
    subst (λ (t : List ℕ). IfOk c.joined-made.result (λ html. html.text.items ≡ t))
    (place_more (fault_row_html c.args.tick_us) _ _ _ c.loop-place-test.true c.index-faults-place.is)
    (c.joined-made.ensures _ _ c.loop-place.invariant c.fault_row.ensures)
