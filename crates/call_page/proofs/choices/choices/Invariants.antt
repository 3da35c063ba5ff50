use Rattle.std.proofs.Common.{take}
use Rattle.std.specs.List.{flat_map}
use Rattle.call_page.specs.{Choices.IsChoiceOf, Choices.failing_row}
use Rattle.call_facts.specs.Lists.{EachOf}
use Rattle.call_page.proofs.choices.choices.Given as goal

abbrev pub invariant-loop-row : goal.invariant-loop-row
invariant-loop-row l =
    EachOf (IsChoiceOf l.known.study.now.line l.known.study.now.scripts.items l.parts l.known.rows.now)
    (flat_map (failing_row l.known.study.now.line l.parts l.known.rows.now)
    (take l.row-index l.known.rows.now)) l.choices.items
