use Rattle.std.proofs.Common.{◌≡◌, ◌++◌, take}
use Rattle.base_text.specs.lines.SpacedNumbers.{numbers_text}
use Rattle.cert_claims.proofs.text.print.push_numbers.Given as goal

abbrev pub invariant-loop-number : goal.invariant-loop-number
invariant-loop-number l =
    l.text.items ≡ l.initial.text.items ++ numbers_text (take l.number-index l.numbers)
