use Rattle.std.proofs.Common.{◌≡◌, ℕ, List, IfOk, subst}
use Rattle.draw_page.proofs.Rows.{row_more}
use Rattle.draw_page.specs.Matrices.{over_html}
use Rattle.draw_page.proofs.matrices.terminal_heads.Goals as goal

pub loop-terminal-preserved : goal.loop-terminal-preserved
loop-terminal-preserved c =
    subst (λ (t : List ℕ). IfOk c.joined-made.result (λ html. html.text.items ≡ t))
    (row_more (λ terminal. over_html terminal.items) _ _ _ c.loop-terminal-test.true c.terminal-item.is)
    (c.joined-made.ensures _ _ c.loop-terminal.invariant (rw c.as_slice.ensures.value at c.over.ensures))
