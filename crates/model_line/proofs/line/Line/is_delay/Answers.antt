use Rattle.std.proofs.Common.{◌∙◌, sym, arith}
use Rattle.model_line.specs.DelayLaws.{delay_at}
use Rattle.model_line.proofs.line.Line.is_delay.Goals as goal

pub returns-then-delay_of-param : goal.returns-then-delay_of-param
returns-then-delay_of-param c =
    sym (delay_at c.args.self.now c.loop-channel.channel c.args.param (omega arith)
    (sym c.delay_of.ensures.number ∙ c.if-delay_of-param.true))
