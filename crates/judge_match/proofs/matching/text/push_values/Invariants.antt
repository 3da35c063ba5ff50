use Rattle.std.proofs.Common.{◌≡◌, ◌++◌, take}
use Rattle.base_text.specs.lines.SpacedNumbers.{numbers_text}
use Rattle.judge_match.proofs.matching.text.push_values.Given as goal

abbrev pub invariant-loop-value : goal.invariant-loop-value
invariant-loop-value l =
    l.text.items ≡ l.initial.text.items ++ numbers_text (take l.value-index l.values)
