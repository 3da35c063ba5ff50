use Rattle.draw_page.specs.Headings.{tiles_html}
use Rattle.draw_page.proofs.heading.tiles.Goals as goal

pub returns : goal.returns
unfolding tiles_html
returns c =
    let counts = c.joined-counts.ensures _ _ c.counts.ensures c.least_tile.ensures in
    let near = rw c.as_slice.ensures.value at c.nearest.ensures in
    let spare = rw near at c.spare_tile-spare.ensures in
    c.classed_around.ensures _ (c.joined.ensures _ _ counts spare)
