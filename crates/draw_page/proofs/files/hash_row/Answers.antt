use Rattle.draw_page.specs.Filed.{hash_row_html}
use Rattle.draw_page.proofs.files.hash_row.Goals as goal

pub returns : goal.returns
unfolding hash_row_html
returns c =
    c.around.ensures _ (c.joined.ensures _ _ (c.row_head-name.ensures _ c.words.ensures)
    (c.bare_cell-hash.ensures _ c.words_in.ensures))
