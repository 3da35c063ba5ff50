-- The sections of the faults.
use Rattle.std.specs.Prelude.{◌++◌, ℕ, List, [], ◌∷◌, codes, decimal, length, nat_le, if◌then◌else◌}
use Rattle.std.specs.List.{flat_map}
use Rattle.base_markup.specs.declared.html.tag.Tag.TheVariants as tag
use Rattle.base_markup.specs.declared.html.attribute.Key.TheVariants as key
use Rattle.base_markup.specs.{html.Content.element_text, html.Words.words_text}
use Rattle.draw_shapes.specs.Seen.{drawing_seen}
use Rattle.draw_page.specs.declared.anchor.Anchor.TheVariants as anchor
use Rattle.draw_page.specs.declared.page.{Page.Page, Fault.Fault, Verdict.Verdict}
use Rattle.draw_page.specs.Bare.{bare_cell_html}
use Rattle.draw_page.specs.Elements.{anchor_said, cell_html, columns_html, head_cell_html, numbered}
use Rattle.draw_page.specs.Elements.{number_cell_html, plain_html, section_html, table_html}
use Rattle.draw_page.specs.Elements.{words_in_html}
use Rattle.draw_page.specs.{Badges.badge_html, Figures.figure_html}
use Rattle.model_line.specs.NamesByNumber.{kind_text}
use Rattle.draw_page.specs.Words.{by_said, deadline_said, left_said, trip_said}
use Rattle.draw_page.specs.Sweeps.{scripts_html, strips_html}

-- ---- the kind, how many scripts, which one is drawn, and what is swept

unfoldable pub subject_said : Fault → List ℕ
subject_said fault =
    codes "An " ++ kind_text fault.kind ++ codes " fault. Scripts: "
    ++ decimal (length fault.cases.items) ++ codes ". The drawing shows every choice of delays in "
    ++ fault.shown.items ++ codes "."

unfoldable pub swept_item_html : List ℕ → List ℕ
swept_item_html one = words_text (codes " Swept: ") ++ words_text one ++ words_text (codes ".")

unfoldable pub about_html : Fault → List ℕ
about_html fault =
    plain_html tag.Paragraph
    (words_text (subject_said fault)
    ++ flat_map (λ one. swept_item_html one.items) fault.swept.items)

-- ---- how it stands at each terminal

unfoldable pub answer_cells_html : ℕ → Verdict → List ℕ
answer_cells_html tick_us v =
    head_cell_html (codes "row") (words_text v.terminal.items)
    ++ bare_cell_html (codes "state") (badge_html v.standings.items)
    ++ number_cell_html (codes "first trip") (trip_said tick_us v.may v.must)

unfoldable pub limit_cells_html : ℕ → Verdict → List ℕ
limit_cells_html tick_us v =
    number_cell_html (codes "deadline") (deadline_said tick_us v.deadline)
    ++ number_cell_html (codes "margin") (left_said tick_us v)
    ++ cell_html (codes "by") (codes "settled by") (words_text (by_said v.by))

unfoldable pub end_row_html : ℕ → Verdict → List ℕ
end_row_html tick_us v =
    plain_html tag.Row (answer_cells_html tick_us v ++ limit_cells_html tick_us v)

unfoldable pub ends_html : ℕ → List Verdict → List ℕ
ends_html tick_us verdicts =
    table_html (codes "ends")
    (columns_html (codes "Terminal" ∷ (codes "verdict" ∷ (codes "first trip" ∷ (codes "deadline"
    ∷ (codes "margin" ∷ (codes "settled by" ∷ [])))))))
    (flat_map (end_row_html tick_us) verdicts)

-- ---- the strips and the table of all scripts; nothing of one script alone

abbrev pub swept_html : ℕ → Fault → List ℕ
swept_html tick_us fault =
    if nat_le (length fault.cases.items) 1 then []
    else strips_html fault.cases.items fault.verdicts.items
    ++ scripts_html tick_us fault.cases.items fault.verdicts.items

-- ---- a fault by its number, and all of them

unfoldable pub fault_html : ℕ → ℕ → Fault → List ℕ
fault_html tick_us n fault =
    element_text tag.Section ((key.Id, anchor_said (anchor.Fault n)) ∷ [])
    (words_in_html tag.Heading3 fault.name.items ++ about_html fault
    ++ ends_html tick_us fault.verdicts.items ++ swept_html tick_us fault
    ++ figure_html (drawing_seen fault.bands))

unfoldable pub faults_html : Page → List ℕ
faults_html page =
    section_html anchor.Faults (codes "Faults")
    (numbered (fault_html page.tick_us) 0 page.faults.items)
