-- The matrix of faults and terminals.
use Rattle.std.specs.Prelude.{◌++◌, ℕ, List, [], ◌∷◌, codes, Vec}
use Rattle.std.specs.declared.alloc.Global.{Global}
use Rattle.std.specs.List.{flat_map}
use Rattle.base_markup.specs.declared.html.tag.Tag.TheVariants as tag
use Rattle.base_markup.specs.declared.html.attribute.Key.TheVariants as key
use Rattle.base_markup.specs.{html.Content.element_text, html.Words.words_text}
use Rattle.draw_page.specs.declared.anchor.Anchor.TheVariants as anchor
use Rattle.draw_page.specs.declared.page.{Page.Page, Fault.Fault, Verdict.Verdict}
use Rattle.draw_page.specs.Elements.{numbered, plain_html, cell_html, number_cell_html, column_html}
use Rattle.draw_page.specs.Elements.{head_cell_html, link_html, said_in_html, section_html, table_html}
use Rattle.model_line.specs.NamesByNumber.{kind_text}
use Rattle.draw_page.specs.Words.{left_said, trip_said}
use Rattle.draw_page.specs.Badges.{badge_html}

-- ---- the head: the terminals, and below each its three columns

unfoldable pub corner_html : List ℕ → List ℕ
corner_html words =
    element_text tag.HeadCell ((key.Scope, codes "col") ∷ ((key.Rowspan, codes "2") ∷ []))
    (words_text words)

unfoldable pub over_html : List ℕ → List ℕ
over_html terminal =
    element_text tag.HeadCell ((key.Scope, codes "colgroup") ∷ ((key.Colspan, codes "3") ∷ []))
    (words_text terminal)

abbrev pub terminal_heads_html : List (Vec ℕ Global) → List ℕ
terminal_heads_html terminals = flat_map (λ terminal. over_html terminal.items) terminals

unfoldable pub three_heads_html : List ℕ
three_heads_html =
    column_html (codes "verdict") ++ column_html (codes "first trip") ++ column_html (codes "margin")

unfoldable pub matrix_head_html : List (Vec ℕ Global) → List ℕ
matrix_head_html terminals =
    plain_html tag.TableHead
    (plain_html tag.Row
    (corner_html (codes "Fault") ++ corner_html (codes "Kind") ++ terminal_heads_html terminals)
    ++ plain_html tag.Row (flat_map (λ terminal. three_heads_html) terminals))

-- ---- the rows

-- how a fault stands at a terminal, its first trip and its margin
unfoldable pub verdict_cells_html : ℕ → Verdict → List ℕ
verdict_cells_html tick_us v =
    cell_html (codes "state") v.terminal.items (badge_html v.standings.items)
    ++ number_cell_html (codes "first trip") (trip_said tick_us v.may v.must)
    ++ number_cell_html (codes "margin") (left_said tick_us v)

-- the fault of this number, with a link to its section
unfoldable pub fault_row_html : ℕ → ℕ → Fault → List ℕ
fault_row_html tick_us n fault =
    plain_html tag.Row
    (head_cell_html (codes "row") (link_html (anchor.Fault n) fault.name.items)
    ++ cell_html (codes "kind") (codes "kind") (words_text (kind_text fault.kind))
    ++ flat_map (verdict_cells_html tick_us) fault.verdicts.items)

-- what the numbers mean, and from when they count
unfoldable pub matrix_meaning : List ℕ
matrix_meaning =
    said_in_html tag.Paragraph (codes "small") (codes "First trip: no choice of times trips before the first number, and every choice has tripped by the second, in milliseconds after the inception of the fault; of a swept fault that is so of the script that does worst there. Margin: from the second to the deadline; where no trip may come, what the fault has to spare: the least, over every choice of times, from what holds the trip back to what would let it through, known where the interval rules say that no script trips. Drawings and reasons count from the beginning of the play; a drawing marks the inception.")

unfoldable pub matrix_html : Page → List ℕ
matrix_html page =
    section_html anchor.Verdicts (codes "Verdicts") (matrix_meaning ++ table_html (codes "matrix")
    (matrix_head_html page.terminals.items)
    (numbered (fault_row_html page.tick_us) 0 page.faults.items))
