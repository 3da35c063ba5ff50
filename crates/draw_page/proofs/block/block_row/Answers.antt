use Rattle.draw_page.specs.Blocks.{block_row_html}
use Rattle.draw_page.proofs.block.block_row.Goals as goal

pub returns : goal.returns
unfolding block_row_html
returns c =
    c.around.ensures _ (c.joined.ensures _ _ (c.row_head-label.ensures _ c.words.ensures)
    (c.bare_cell-said.ensures _ c.words-2.ensures))
