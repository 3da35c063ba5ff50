use Rattle.judge_verdict.specs.verdict.OneEach.{OneEach}
use Rattle.judge_borders.specs.Parts.{RuleSays}
use Rattle.judge_borders.proofs.parts.rules_at.Given as goal

abbrev pub invariant-loop-k : goal.invariant-loop-k
invariant-loop-k l = OneEach (RuleSays l.fault l.part) l.k l.rules.items
