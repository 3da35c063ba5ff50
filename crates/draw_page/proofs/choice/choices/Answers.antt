use Rattle.std.proofs.Common.{◌≡◌, ℕ, List, IfOk, subst}
use Rattle.draw_page.proofs.Rows.{row_more}
use Rattle.draw_page.specs.Choices.{choice_html}
use Rattle.draw_page.proofs.choice.choices.Goals as goal

pub loop-choice-preserved : goal.loop-choice-preserved
loop-choice-preserved c =
    subst (λ (t : List ℕ). IfOk c.joined-made.result (λ html. html.text.items ≡ t))
    (row_more (choice_html c.args.tick_us) _ _ _ c.loop-choice-test.true c.choice-item.is)
    (c.joined-made.ensures _ _ c.loop-choice.invariant c.one_choice.ensures)
