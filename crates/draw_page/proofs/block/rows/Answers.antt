use Rattle.draw_page.specs.Blocks.{block_rows_html}
use Rattle.draw_page.proofs.block.rows.Goals as goal

pub returns : goal.returns
unfolding block_rows_html
returns c =
    let sources = rw c.as_slice.ensures.value at c.source_rows-sources.ensures in
    let made = rw c.as_slice-2.ensures.value at c.block_row.ensures in
    c.joined.ensures _ _ (c.joined-dated.ensures _ _ sources c.date.ensures) made
