use Rattle.judge_verdict.specs.verdict.OneEach.{OneEach}
use Rattle.judge_borders.specs.Parts.{RuleSays}
use Rattle.judge_borders.proofs.parts.no_rules.Given as goal

abbrev pub invariant-loop-i : goal.invariant-loop-i
invariant-loop-i l = OneEach (RuleSays l.fault l.part) l.i l.rules.items
