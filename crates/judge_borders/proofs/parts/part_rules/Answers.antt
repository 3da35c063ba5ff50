use Rattle.std.proofs.Common.{sym, subst}
use Rattle.judge_borders.specs.Parts.{AreRules}
use Rattle.judge_borders.proofs.parts.part_rules.Goals as goal

pub loop-still-init : goal.loop-still-init
loop-still-init c =
    subst (AreRules c.args.fault.now c.args.part.now) (sym c.in_ok-rules.ensures.items) c.requires.known
