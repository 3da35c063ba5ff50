use Rattle.std.proofs.Common.{◌≡◌, ℕ, List, IfOk, subst}
use Rattle.draw_page.proofs.Rows.{row_more}
use Rattle.draw_page.specs.Matrices.{three_heads_html}
use Rattle.draw_page.proofs.matrices.three_heads.Goals as goal

pub loop-terminal-preserved : goal.loop-terminal-preserved
loop-terminal-preserved c =
    subst (λ (t : List ℕ). IfOk c.joined-made.result (λ html. html.text.items ≡ t))
    (row_more (λ terminal. three_heads_html) _ _ _ c.loop-terminal-test.true c._terminal-item.is)
    (c.joined-made.ensures _ _ c.loop-terminal.invariant c.three_columns.ensures)
