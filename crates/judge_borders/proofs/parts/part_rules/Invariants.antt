use Rattle.judge_borders.specs.Parts.{AreRules}
use Rattle.judge_borders.proofs.parts.part_rules.Given as goal

abbrev pub invariant-loop-still : goal.invariant-loop-still
invariant-loop-still l = AreRules l.fault l.part l.rules.items
