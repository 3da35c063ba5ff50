use Rattle.draw_page.specs.Filed.{files_html}
use Rattle.draw_page.proofs.files.files.Goals as goal

pub returns : goal.returns
unfolding files_html
returns c =
    let table = c.joined-table.ensures _ _ c.meaning.ensures c.file_table.ensures in
    let sources = rw c.as_slice-sources.ensures.value at c.printed.ensures in
    let files = rw c.as_slice-files.ensures.value at c.printed-2.ensures in
    let printed = c.joined-printed.ensures _ _ sources files in
    c.section.ensures _ (c.joined.ensures _ _ table printed)
