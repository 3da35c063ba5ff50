use Rattle.draw_page.specs.Filed.{file_table_html}
use Rattle.draw_page.proofs.files.file_table.Goals as goal

pub returns : goal.returns
unfolding file_table_html
returns c =
    let sources = rw c.as_slice.ensures.value at c.file_rows-sources.ensures in
    let files = rw c.as_slice-2.ensures.value at c.file_rows.ensures in
    let digests = rw c.as_slice-3.ensures.value at c.digest_rows.ensures in
    let rows = c.joined-rows.ensures _ _ (c.joined-files.ensures _ _ sources files) digests in
    c.table.ensures _ _ c.columns-head.ensures rows
