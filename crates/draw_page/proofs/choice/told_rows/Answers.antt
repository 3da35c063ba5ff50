use Rattle.std.proofs.Common.{◌≡◌, ℕ, List, IfOk, subst}
use Rattle.draw_page.proofs.Rows.{row_more}
use Rattle.draw_page.specs.Choices.{told_row_html}
use Rattle.draw_page.proofs.choice.told_rows.Goals as goal

pub loop-time-preserved : goal.loop-time-preserved
loop-time-preserved c =
    subst (λ (t : List ℕ). IfOk c.joined-made.result (λ html. html.text.items ≡ t))
    (row_more (told_row_html c.args.tick_us) _ _ _ c.loop-time-test.true c.time-item.is)
    (c.joined-made.ensures _ _ c.loop-time.invariant c.told_row.ensures)
