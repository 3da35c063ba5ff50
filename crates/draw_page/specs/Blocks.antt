-- The title block: the files that were read, with their digests, the date, and what made the page.
use Rattle.std.specs.Prelude.{◌++◌, ℕ, List, [], Option, None, Some, codes, Vec}
use Rattle.std.specs.declared.alloc.Global.{Global}
use Rattle.std.specs.List.{flat_map}
use Rattle.base_markup.specs.declared.html.tag.Tag.TheVariants as tag
use Rattle.base_markup.specs.html.Words.{words_text}
use Rattle.draw_page.specs.declared.page.{Page.Page, FileText.FileText}
use Rattle.draw_page.specs.Bare.{bare_cell_html}
use Rattle.draw_page.specs.Elements.{cell_html, head_cell_html, plain_html, table_html, words_in_html}

-- a file that was read, and its digest
unfoldable pub source_row_html : FileText → List ℕ
source_row_html source =
    plain_html tag.Row
    (head_cell_html (codes "row") (words_text source.name.items)
    ++ cell_html (codes "hash") (codes "SHA-256 ") (words_in_html tag.Code source.sha256.items))

unfoldable pub block_row_html : List ℕ → List ℕ → List ℕ
block_row_html label words =
    plain_html tag.Row
    (head_cell_html (codes "row") (words_text label) ++ bare_cell_html (codes "said") (words_text words))

abbrev pub date_html : Option (Vec ℕ Global) → List ℕ
date_html None = []
date_html (Some date) = block_row_html (codes "Date") date.items

unfoldable pub block_rows_html : Page → List ℕ
block_rows_html page =
    flat_map source_row_html page.sources.items ++ date_html page.date
    ++ block_row_html (codes "Made by") page.made.items

unfoldable pub block_html : Page → List ℕ
block_html page = table_html (codes "block") [] (block_rows_html page)
