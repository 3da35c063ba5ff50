use Rattle.std.proofs.Common.{◌∙◌, sym}
use Rattle.model_history.specs.Recorded.{at}
use Rattle.model_history.proofs.{DelayLaws.delayed_at, PlainLaws.delayed_early}
use Rattle.model_history.proofs.plain.delayed_at.Goals as goal

pub returns-then-delay-tick : goal.returns-then-delay-tick
returns-then-delay-tick c =
    c.is_on.ensures
    ∙ sym (delayed_at (at c.args.recorded.now) c.args.delay c.args.tick c.if-delay-tick.true)

pub returns-else-delay-tick : goal.returns-else-delay-tick
returns-else-delay-tick c =
    delayed_early (at c.args.recorded.now) c.args.delay c.args.tick c.if-delay-tick.false
