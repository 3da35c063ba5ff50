use Rattle.std.proofs.Common.{◌++◌}
use Rattle.std.proofs.lemmas.List.{append_assoc}
use Rattle.std.specs.List.{flat_map}
use Rattle.draw_shapes.specs.declared.class.TheConstants.{CLASSES}
use Rattle.draw_page.specs.declared.style.Part.TheVariants as part
use Rattle.draw_page.specs.Figures.{look_rule}
use Rattle.draw_page.specs.Sheets.{part_words}
use Rattle.draw_page.specs.Sheets.{sheet_words}
use Rattle.draw_page.specs.Sheets.{first_words}
use Rattle.draw_page.specs.Sheets.{last_words}
use Rattle.draw_page.proofs.sheet.words.Goals as goal

pub returns : goal.returns
unfolding sheet_words first_words last_words
returns c =
    rw (append_assoc (first_words ++ flat_map look_rule CLASSES) (part_words part.Narrow) (part_words part.Print))
    at (rw (
      c.rules_of.ensures,
      c.rules_of-2.ensures,
      c.rules_of-3.ensures,
      c.rules_of-4.ensures,
      c.as_slice.ensures.value,
      c.in_ok-looks.ensures,
      c.rules_of-5.ensures,
      c.rules_of-6.ensures,
    ) at c.words_of.ensures)
