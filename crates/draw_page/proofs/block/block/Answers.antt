use Rattle.draw_page.specs.Blocks.{block_html}
use Rattle.draw_page.proofs.block.block.Goals as goal

pub returns : goal.returns
unfolding block_html
returns c =
    c.table.ensures _ _ c.new.ensures c.rows.ensures
