-- The obligations that are open.
use Rattle.std.specs.Prelude.{◌++◌, ℕ, List, [], ◌∷◌, codes}
use Rattle.std.specs.List.{flat_map}
use Rattle.base_markup.specs.declared.html.tag.Tag.TheVariants as tag
use Rattle.draw_page.specs.declared.anchor.Anchor.TheVariants as anchor
use Rattle.draw_page.specs.declared.page.{Page.Page, Undecided.Undecided}
use Rattle.draw_page.specs.Elements.{columns_html, head_cell_html, link_html, number_cell_html}
use Rattle.draw_page.specs.Elements.{plain_html, section_html, table_html, words_in_html}

-- the script and the terminal
unfoldable pub open_row_html : Undecided → List ℕ
open_row_html one =
    plain_html tag.Row
    (head_cell_html (codes "row") (link_html (anchor.Fault one.fault) one.script.items)
    ++ number_cell_html (codes "terminal") one.terminal.items)

unfoldable pub open_table_html : List Undecided → List ℕ
open_table_html all =
    table_html (codes "told")
    (columns_html (codes "Script" ∷ (codes "terminal" ∷ [])))
    (flat_map open_row_html all)

unfoldable pub none_open_html : List ℕ
none_open_html = words_in_html tag.Paragraph (codes "No obligation is open.")

abbrev pub some_open_html : List Undecided → List ℕ
some_open_html [] = none_open_html
some_open_html (one ∷ more) = open_table_html (one ∷ more)

unfoldable pub open_html : Page → List ℕ
open_html page =
    section_html anchor.Open (codes "Open obligations") (some_open_html page.undecided.items)
