use Rattle.draw_page.specs.Blocks.{source_row_html}
use Rattle.draw_page.proofs.block.source_row.Goals as goal

pub returns : goal.returns
unfolding source_row_html
returns c =
    let name = c.row_head-name.ensures _ (rw c.as_slice.ensures.value at c.words.ensures) in
    let hash = c.cell-hash.ensures _ (rw c.as_slice-2.ensures.value at c.words_in-digest.ensures) in
    c.around.ensures _ (c.joined.ensures _ _ name hash)
