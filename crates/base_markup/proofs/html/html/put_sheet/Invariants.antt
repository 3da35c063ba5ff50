use Rattle.std.proofs.Common.{◌≡◌, ◌++◌, take}
use Rattle.base_markup.specs.html.Content.{plain_sheet}
use Rattle.base_markup.proofs.html.html.put_sheet.Given as goal

abbrev pub invariant-loop-letter : goal.invariant-loop-letter
invariant-loop-letter l =
    l.text.items ≡ l.initial.text.items ++ plain_sheet (take l.letter-index l.sheet)
