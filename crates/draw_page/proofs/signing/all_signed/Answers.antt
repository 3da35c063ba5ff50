use Rattle.std.proofs.Common.{◌≡◌, ℕ, List, IfOk, subst}
use Rattle.draw_page.proofs.Rows.{row_more}
use Rattle.draw_page.specs.Signing.{signed_html}
use Rattle.draw_page.proofs.signing.all_signed.Goals as goal

pub loop-file-preserved : goal.loop-file-preserved
loop-file-preserved c =
    subst (λ (t : List ℕ). IfOk c.joined-made.result (λ html. html.text.items ≡ t))
    (row_more signed_html _ _ _ c.loop-file-test.true c.file-item.is)
    (c.joined-made.ensures _ _ c.loop-file.invariant c.signed.ensures)
