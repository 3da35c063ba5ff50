-- The table of times.
use Rattle.std.specs.Prelude.{◌++◌, ℕ, List, [], ◌∷◌, Option, None, Some, codes, Vec}
use Rattle.std.specs.declared.alloc.Global.{Global}
use Rattle.std.specs.List.{flat_map}
use Rattle.base_markup.specs.declared.html.tag.Tag.TheVariants as tag
use Rattle.base_markup.specs.html.Words.{words_text}
use Rattle.draw_page.specs.declared.anchor.Anchor.TheVariants as anchor
use Rattle.draw_page.specs.declared.page.{Page.Page, Slack.Slack, Time.Time}
use Rattle.draw_page.specs.Bare.{bare_cell_html}
use Rattle.draw_page.specs.Elements.{cell_html, column_html, head_cell_html, number_cell_html}
use Rattle.draw_page.specs.Elements.{plain_html, said_in_html, section_html, table_html, words_in_html}
use Rattle.draw_page.specs.{Bars.bar_drawing, Bars.reach_of}
use Rattle.draw_page.specs.Figures.{drawing_html}
use Rattle.draw_page.specs.Words.{interval_said, ticks_text, time_said}

-- how far an end can move, and what is lost first beyond; not tested where nothing is lost
unfoldable pub lost_html : ℕ → ℕ → List ℕ → List ℕ
lost_html tick_us ticks lost =
    words_text (time_said tick_us ticks) ++ said_in_html tag.Span (codes "lost") lost

abbrev pub slack_of : ℕ → ℕ → Option (Vec ℕ Global) → List ℕ
slack_of tick_us ticks None = words_text (codes "not tested")
slack_of tick_us ticks (Some lost) = lost_html tick_us ticks lost.items

abbrev pub slack_html : ℕ → Slack → List ℕ
slack_html tick_us slack = slack_of tick_us slack.ticks slack.lost

unfoldable pub slack_cell_html : ℕ → List ℕ → Slack → List ℕ
slack_cell_html tick_us label slack =
    cell_html (codes "number") label (slack_html tick_us slack)

unfoldable pub time_cells_html : ℕ → Time → List ℕ
time_cells_html tick_us time =
    head_cell_html (codes "row") (words_in_html tag.Code time.name.items)
    ++ number_cell_html (codes "declared") (interval_said tick_us time.low time.high)
    ++ slack_cell_html tick_us (codes "to spare below") time.below
    ++ slack_cell_html tick_us (codes "to spare above") time.above

unfoldable pub bar_cell_html : ℕ → ℕ → Time → List ℕ
bar_cell_html tick_us reach time =
    bare_cell_html (codes "bar") (drawing_html (bar_drawing tick_us reach time))

unfoldable pub time_row_html : ℕ → ℕ → Time → List ℕ
time_row_html tick_us reach time =
    plain_html tag.Row (time_cells_html tick_us time ++ bar_cell_html tick_us reach time)

-- from where to where the bars go
abbrev pub reach_said : ℕ → ℕ → List ℕ
reach_said tick_us reach = codes "0 to " ++ ticks_text tick_us reach ++ codes " ms"

unfoldable pub margin_columns_html : List ℕ
margin_columns_html =
    column_html (codes "Time") ++ column_html (codes "declared")
    ++ column_html (codes "to spare below") ++ column_html (codes "to spare above")

unfoldable pub times_head_html : ℕ → ℕ → List ℕ
times_head_html tick_us reach =
    plain_html tag.TableHead
    (plain_html tag.Row (margin_columns_html ++ column_html (reach_said tick_us reach)))

unfoldable pub times_table_html : ℕ → List Time → List ℕ
times_table_html tick_us times =
    table_html (codes "times") (times_head_html tick_us (reach_of times))
    (flat_map (time_row_html tick_us (reach_of times)) times)

unfoldable pub times_meaning : List ℕ
times_meaning =
    said_in_html tag.Paragraph (codes "small")
    (codes "To spare: how far one end alone can move outward, all else as declared, with each obligation that the interval rules hold still held, and what is lost first beyond. One that is held by parts, cases or a corner alone is left out. Not tested: none is lost, however far the end moves, so the study asks nothing of it; that is a gap of coverage and no room. A full bar is the declared interval, a thin one how far its ends can go.")

unfoldable pub no_times_html : List ℕ
no_times_html = words_in_html tag.Paragraph (codes "No margins were worked out.")

abbrev pub some_times_html : ℕ → List Time → List ℕ
some_times_html tick_us [] = no_times_html
some_times_html tick_us (time ∷ more) = times_meaning ++ times_table_html tick_us (time ∷ more)

unfoldable pub times_html : Page → List ℕ
times_html page =
    section_html anchor.Times (codes "Times and margins")
    (some_times_html page.tick_us page.times.items)
