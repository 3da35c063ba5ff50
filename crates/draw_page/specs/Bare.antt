-- Cells that say by themselves what they are.
use Rattle.std.specs.Prelude.{ℕ, List}
use Rattle.base_markup.specs.declared.html.tag.Tag.TheVariants as tag
use Rattle.draw_page.specs.Elements.{classed_html}

-- a cell of a class, without a label
unfoldable pub bare_cell_html : List ℕ → List ℕ → List ℕ
bare_cell_html class inside = classed_html tag.Cell class inside
