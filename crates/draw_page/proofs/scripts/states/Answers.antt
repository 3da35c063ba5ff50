use Rattle.std.proofs.Common.{◌≡◌, ℕ, List, IfOk, subst}
use Rattle.draw_page.proofs.Rows.{row_more}
use Rattle.draw_page.specs.Sweeps.{state_html}
use Rattle.draw_page.proofs.scripts.states.Goals as goal

pub loop-verdict-preserved : goal.loop-verdict-preserved
loop-verdict-preserved c =
    subst (λ (t : List ℕ). IfOk c.joined-made.result (λ html. html.text.items ≡ t))
    (row_more (state_html c.args.place) _ _ _ c.loop-verdict-test.true c.verdict-item.is)
    (c.joined-made.ensures _ _ c.loop-verdict.invariant c.state.ensures)
