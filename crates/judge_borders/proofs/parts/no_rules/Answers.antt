use Rattle.std.proofs.Common.{arith}
use Rattle.model_line.specs.Parameters.{terminal_count}
use Rattle.judge_verdict.specs.verdict.OneEachLaws.{one_more, all_there}
use Rattle.judge_borders.specs.declared.fault.PartRule.TheVariants.{Open}
use Rattle.judge_borders.specs.Parts.{RuleSays, line_of}
use Rattle.judge_borders.proofs.parts.no_rules.Goals as goal

pub loop-i-preserved : goal.loop-i-preserved
loop-i-preserved c =
    one_more (RuleSays c.args.fault.now c.args.part.now) c.loop-i.i c.loop-i.rules.items
    c.push.new.self.items Open c.in_ok-push.ensures.items tt c.loop-i.invariant

pub returns : goal.returns
returns c =
    all_there (RuleSays c.args.fault.now c.args.part.now) c.loop-i.i
    (terminal_count (line_of c.args.fault.now)) c.loop-i.rules.items (omega arith) c.loop-i.invariant
