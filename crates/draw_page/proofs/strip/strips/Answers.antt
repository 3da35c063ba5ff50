use Rattle.std.proofs.Common.{◌≡◌, ℕ, List, IfOk, subst}
use Rattle.draw_page.proofs.Rows.{row_more}
use Rattle.draw_page.specs.Sweeps.{strip_html}
use Rattle.draw_page.proofs.strip.strips.Goals as goal

pub loop-verdict-preserved : goal.loop-verdict-preserved
loop-verdict-preserved c =
    subst (λ (t : List ℕ). IfOk c.joined-made.result (λ html. html.text.items ≡ t))
    (row_more (strip_html c.args.cases.now) _ _ _ c.loop-verdict-test.true c.verdict-item.is)
    (c.joined-made.ensures _ _ c.loop-verdict.invariant c.strip.ensures)
