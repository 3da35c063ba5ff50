use Rattle.std.proofs.Common.{◌≡◌, ◌++◌, take}
use Rattle.draw_page.specs.Running.{quoted}
use Rattle.draw_page.proofs.running.put_quoted.Given as goal

abbrev pub invariant-loop-letter : goal.invariant-loop-letter
invariant-loop-letter l =
    l.text.items ≡ l.initial.text.items ++ quoted (take l.letter-index l.words)
