-- All scripts of a swept fault: a strip for each terminal, and a table.
use Rattle.std.specs.Prelude.{◌++◌, ℕ, List, [], ◌∷◌, codes, map, get_or}
use Rattle.std.specs.List.{flat_map}
use Rattle.base_markup.specs.declared.html.tag.Tag.TheVariants as tag
use Rattle.base_markup.specs.declared.html.attribute.Key.TheVariants as key
use Rattle.base_markup.specs.declared.html.sign.Sign.{Sign}
use Rattle.base_markup.specs.declared.html.sign.Sign.TheVariants as sign
use Rattle.base_markup.specs.{html.Content.element_text, html.Words.words_text, html.Names.sign_text}
use Rattle.draw_page.specs.declared.page.{Case.Case, Standing.Standing, Verdict.Verdict}
use Rattle.draw_page.specs.declared.page.Standing.TheVariants.{Held, Fails, Open}
use Rattle.draw_page.specs.Elements.{cell_html, column_html, head_cell_html, numbered}
use Rattle.draw_page.specs.Elements.{number_cell_html, plain_html, table_html, words_in_html}
use Rattle.draw_page.specs.{Badges.standing_html, Words.deadline_said, Words.time_said}

-- ---- strips

abbrev pub spot_class : Standing → List ℕ
spot_class Held = codes "spot held"
spot_class Fails = codes "spot fails"
spot_class Open = codes "spot open"

abbrev pub spot_sign : Standing → Sign
spot_sign Held = sign.Check
spot_sign Fails = sign.Cross
spot_sign Open = sign.Question

abbrev pub name_at : List Case → ℕ → List ℕ
name_at cases n = get_or (map (λ case. case.name.items) cases) n []

-- a spot, which says its script to a pointer
unfoldable pub spot_html : List Case → ℕ → Standing → List ℕ
spot_html cases n standing =
    element_text tag.Span
    ((key.Class, spot_class standing) ∷ ((key.Title, name_at cases n) ∷ []))
    (sign_text (spot_sign standing))

unfoldable pub strip_html : List Case → Verdict → List ℕ
strip_html cases v =
    element_text tag.Division ((key.Class, codes "strip") ∷ ((key.AriaHidden, codes "true") ∷ []))
    (words_in_html tag.Strong v.terminal.items ++ numbered (spot_html cases) 0 v.standings.items)

abbrev pub strips_html : List Case → List Verdict → List ℕ
strips_html cases verdicts = flat_map (strip_html cases) verdicts

-- ---- the table

unfoldable pub script_heads_html : List ℕ
script_heads_html =
    column_html (codes "Script") ++ column_html (codes "swept times")
    ++ column_html (codes "deadline in the play")

unfoldable pub scripts_head_html : List Verdict → List ℕ
scripts_head_html verdicts =
    plain_html tag.TableHead (plain_html tag.Row
    (script_heads_html ++ flat_map (λ v. column_html v.terminal.items) verdicts))

unfoldable pub value_html : ℕ → ℕ → List ℕ
value_html tick_us value = words_in_html tag.Span (time_said tick_us value)

-- how script n stands
abbrev pub standing_at : List Standing → ℕ → List ℕ
standing_at standings n = get_or (map standing_html standings) n []

unfoldable pub state_html : ℕ → Verdict → List ℕ
state_html n v =
    cell_html (codes "state") v.terminal.items (standing_at v.standings.items n)

unfoldable pub values_cell_html : ℕ → List ℕ → List ℕ
values_cell_html tick_us swept =
    cell_html (codes "number") (codes "swept times") (flat_map (value_html tick_us) swept)

unfoldable pub case_cells_html : ℕ → Case → List ℕ
case_cells_html tick_us case =
    head_cell_html (codes "row") (words_text case.name.items)
    ++ values_cell_html tick_us case.swept.items
    ++ number_cell_html (codes "deadline") (deadline_said tick_us case.deadline)

unfoldable pub case_row_html : ℕ → List Verdict → ℕ → Case → List ℕ
case_row_html tick_us verdicts n case =
    plain_html tag.Row (case_cells_html tick_us case ++ flat_map (state_html n) verdicts)

-- folded under a summary
unfoldable pub scripts_html : ℕ → List Case → List Verdict → List ℕ
scripts_html tick_us cases verdicts =
    plain_html tag.Details
    (words_in_html tag.Summary (codes "All scripts of the sweep")
    ++ table_html (codes "scripts") (scripts_head_html verdicts)
    (numbered (case_row_html tick_us verdicts) 0 cases))
