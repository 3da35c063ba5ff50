-- The style sheet of the page: the parts of the program's own sheet, and a rule for each look of a
-- drawing.
use Rattle.std.specs.Prelude.{◌++◌, ℕ, List}
use Rattle.std.specs.List.{flat_map}
use Rattle.base_markup.specs.html.Content.{sheet_text}
use Rattle.draw_shapes.specs.declared.class.TheConstants.{CLASSES}
use Rattle.draw_page.specs.declared.style.TheConstants.{DRAWINGS, MARKS, NARROW, PRINT, TABLES, TEXT}
use Rattle.draw_page.specs.declared.style.Part.{Part}
use Rattle.draw_page.specs.declared.style.Part.TheVariants as part
use Rattle.draw_page.specs.declared.page.Page.{Page}
use Rattle.draw_page.specs.Figures.{look_rule}
use Rattle.draw_page.specs.Running.{running_words}

unfoldable pub part_words : Part → List ℕ
part_words part.Text = TEXT.now
part_words part.Tables = TABLES.now
part_words part.Marks = MARKS.now
part_words part.Drawings = DRAWINGS.now
part_words part.Narrow = NARROW.now
part_words part.Print = PRINT.now

unfoldable pub first_words : List ℕ
first_words =
    part_words part.Text ++ part_words part.Tables ++ part_words part.Marks
    ++ part_words part.Drawings

unfoldable pub last_words : List ℕ
last_words = part_words part.Narrow ++ part_words part.Print

unfoldable pub sheet_words : List ℕ
sheet_words = first_words ++ flat_map look_rule CLASSES ++ last_words

-- the rules for all pages, and those of this one's margins
unfoldable pub sheet_html : Page → List ℕ
sheet_html page = sheet_text (sheet_words ++ running_words page)
