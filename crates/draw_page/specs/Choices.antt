-- The choices of delays that fail an obligation.
use Rattle.std.specs.Prelude.{◌++◌, ℕ, Bool, true, false, List, [], ◌∷◌, codes, decimal, nat_le, Vec}
use Rattle.std.specs.Prelude.{if◌then◌else◌}
use Rattle.std.specs.declared.alloc.Global.{Global}
use Rattle.std.specs.List.{flat_map}
use Rattle.base_markup.specs.declared.html.tag.Tag.TheVariants as tag
use Rattle.base_markup.specs.html.Words.{words_text}
use Rattle.draw_shapes.specs.Seen.{drawing_seen}
use Rattle.draw_page.specs.declared.anchor.Anchor.TheVariants as anchor
use Rattle.draw_page.specs.declared.page.{Page.Page, FailingChoice.FailingChoice}
use Rattle.draw_page.specs.declared.page.{ToldTime.ToldTime, ToldStep.ToldStep}
use Rattle.draw_page.specs.Elements.{classed_html, columns_html, head_cell_html, link_html, plain_html}
use Rattle.draw_page.specs.Elements.{number_cell_html, said_in_html, section_html, table_html}
use Rattle.draw_page.specs.Elements.{words_in_html}
use Rattle.draw_page.specs.Figures.{figure_html}
use Rattle.draw_page.specs.Words.{interval_said, time_said}

-- up to which script, where there are several
abbrev pub until_said : FailingChoice → List ℕ
until_said choice =
    if nat_le choice.scripts 1 then [] else codes " to " ++ choice.last.items

-- the script, with a link to its fault, up to which script, and the terminal
unfoldable pub choice_heading_html : FailingChoice → List ℕ
choice_heading_html choice =
    plain_html tag.Heading3
    (link_html (anchor.Fault choice.fault) choice.script.items ++ words_text (until_said choice)
    ++ words_text (codes " at ") ++ words_text choice.terminal.items)

-- how many scripts there are, where there are several
unfoldable pub several_html : ℕ → List ℕ
several_html scripts =
    words_in_html tag.Paragraph
    (decimal scripts ++ codes " scripts of the fault, one after another, fail there; shown is a choice that fails the first.")

abbrev pub some_several_html : ℕ → List ℕ
some_several_html scripts = if nat_le scripts 1 then [] else several_html scripts

-- that every choice fails, where it does
unfoldable pub every_html : List ℕ
every_html =
    words_in_html tag.Paragraph
    (codes "Every choice inside the declared intervals fails it; this is one of them.")

abbrev pub some_every_html : Bool → List ℕ
some_every_html true = every_html
some_every_html false = []

-- ---- the times that matter: the number here, and the declared interval

unfoldable pub told_row_html : ℕ → ToldTime → List ℕ
told_row_html tick_us time =
    plain_html tag.Row
    (head_cell_html (codes "row") (words_in_html tag.Code time.name.items)
    ++ number_cell_html (codes "here") (time_said tick_us time.number)
    ++ number_cell_html (codes "declared") (interval_said tick_us time.low time.high))

unfoldable pub told_html : ℕ → List ToldTime → List ℕ
told_html tick_us told =
    table_html (codes "told")
    (columns_html (codes "Time that matters" ∷ (codes "here" ∷ (codes "declared" ∷ []))))
    (flat_map (told_row_html tick_us) told)

unfoldable pub none_told_html : List ℕ
none_told_html =
    words_in_html tag.Paragraph
    (codes "It fails with each time in the middle of its interval or at its declared least.")

abbrev pub some_told_html : ℕ → List ToldTime → List ℕ
some_told_html tick_us [] = none_told_html
some_told_html tick_us (time ∷ more) = told_html tick_us (time ∷ more)

-- ---- the delays that move

unfoldable pub step_row_html : ℕ → ToldStep → List ℕ
step_row_html tick_us step =
    plain_html tag.Row
    (head_cell_html (codes "row") (words_in_html tag.Code step.name.items)
    ++ number_cell_html (codes "from") (time_said tick_us step.from)
    ++ number_cell_html (codes "is") (time_said tick_us step.number))

unfoldable pub steps_html : ℕ → List ToldStep → List ℕ
steps_html tick_us steps =
    table_html (codes "told")
    (columns_html (codes "Delay that moves" ∷ (codes "from" ∷ (codes "is" ∷ []))))
    (flat_map (step_row_html tick_us) steps)

abbrev pub some_steps_html : ℕ → List ToldStep → List ℕ
some_steps_html tick_us [] = []
some_steps_html tick_us (step ∷ steps) = steps_html tick_us (step ∷ steps)

-- ---- where the other times stand

unfoldable pub name_html : List ℕ → List ℕ
name_html name = words_text (codes " ") ++ words_in_html tag.Code name

abbrev pub least_name_html : Vec ℕ Global → List ℕ
least_name_html name = name_html name.items

unfoldable pub some_least_html : List (Vec ℕ Global) → List ℕ
some_least_html least =
    classed_html tag.Paragraph (codes "small")
    (words_text (codes "All other times stand in the middle of their intervals, but these at their declared least:")
    ++ flat_map least_name_html least)

unfoldable pub middle_html : List ℕ
middle_html =
    said_in_html tag.Paragraph (codes "small")
    (codes "All other times stand in the middle of their intervals.")

abbrev pub least_html : List (Vec ℕ Global) → List ℕ
least_html [] = middle_html
least_html (name ∷ names) = some_least_html (name ∷ names)

-- ---- a choice, and all of them

unfoldable pub choice_html : ℕ → FailingChoice → List ℕ
choice_html tick_us choice =
    plain_html tag.Section
    (choice_heading_html choice ++ some_several_html choice.scripts ++ said_in_html tag.Preformatted (codes "why") choice.why.items
    ++ some_every_html choice.every
    ++ some_told_html tick_us choice.told.items ++ some_steps_html tick_us choice.steps.items ++ least_html choice.least.items
    ++ figure_html (drawing_seen choice.play))

unfoldable pub none_failing_html : List ℕ
none_failing_html = words_in_html tag.Paragraph (codes "No obligation fails.")

abbrev pub some_failing_html : ℕ → List FailingChoice → List ℕ
some_failing_html tick_us [] = none_failing_html
some_failing_html tick_us (choice ∷ more) = flat_map (choice_html tick_us) (choice ∷ more)

unfoldable pub failing_html : Page → List ℕ
failing_html page =
    section_html anchor.Failing (codes "Choices that fail")
    (some_failing_html page.tick_us page.failing.items)
