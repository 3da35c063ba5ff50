use Rattle.std.proofs.Common.{◌≡◌, ℕ, List, IfOk, subst}
use Rattle.draw_page.proofs.Rows.{row_more}
use Rattle.draw_page.specs.Choices.{step_row_html}
use Rattle.draw_page.proofs.choice.step_rows.Goals as goal

pub loop-step-preserved : goal.loop-step-preserved
loop-step-preserved c =
    subst (λ (t : List ℕ). IfOk c.joined-made.result (λ html. html.text.items ≡ t))
    (row_more (step_row_html c.args.tick_us) _ _ _ c.loop-step-test.true c.step-item.is)
    (c.joined-made.ensures _ _ c.loop-step.invariant c.step_row.ensures)
