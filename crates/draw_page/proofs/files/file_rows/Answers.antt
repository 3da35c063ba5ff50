use Rattle.std.proofs.Common.{◌≡◌, ℕ, List, IfOk, subst}
use Rattle.draw_page.proofs.Rows.{row_more}
use Rattle.draw_page.specs.Filed.{file_row_html}
use Rattle.draw_page.proofs.files.file_rows.Goals as goal

pub loop-file-preserved : goal.loop-file-preserved
loop-file-preserved c =
    subst (λ (t : List ℕ). IfOk c.joined-made.result (λ html. html.text.items ≡ t))
    (row_more (file_row_html) _ _ _ c.loop-file-test.true c.file-item.is)
    (c.joined-made.ensures _ _ c.loop-file.invariant (rw (c.as_slice.ensures.value, c.as_slice-in-loop-file.ensures.value) at c.hash_row.ensures))
