use Rattle.judge_verdict.specs.verdict.OneEach.{OneEach}
use Rattle.call_shots.specs.Choices.{IsChoice}
use Rattle.call_shots.proofs.choice.choices_of.Given as goal

abbrev pub invariant-loop-i : goal.invariant-loop-i
invariant-loop-i l =
    OneEach (IsChoice l.cases.compiled.line.now l.cases.scripts.now l.shots) l.i l.timings.items
