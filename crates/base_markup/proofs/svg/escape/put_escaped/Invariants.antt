use Rattle.std.proofs.Common.{◌≡◌, ◌++◌, take}
use Rattle.base_markup.specs.svg.Escape.{escaped}
use Rattle.base_markup.proofs.svg.escape.put_escaped.Given as goal

abbrev pub invariant-loop-letter : goal.invariant-loop-letter
invariant-loop-letter l =
    l.text.items ≡ l.initial.text.items ++ escaped (take l.letter-index l.words)
