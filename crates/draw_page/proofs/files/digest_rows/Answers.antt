use Rattle.std.proofs.Common.{◌≡◌, ℕ, List, IfOk, subst}
use Rattle.draw_page.proofs.Rows.{row_more}
use Rattle.draw_page.specs.Filed.{digest_row_html}
use Rattle.draw_page.proofs.files.digest_rows.Goals as goal

pub loop-digest-preserved : goal.loop-digest-preserved
loop-digest-preserved c =
    subst (λ (t : List ℕ). IfOk c.joined-made.result (λ html. html.text.items ≡ t))
    (row_more (digest_row_html) _ _ _ c.loop-digest-test.true c.digest-item.is)
    (c.joined-made.ensures _ _ c.loop-digest.invariant (rw (c.as_slice.ensures.value, c.as_slice-in-loop-digest.ensures.value) at c.hash_row.ensures))
