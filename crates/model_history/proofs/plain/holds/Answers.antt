use Rattle.model_history.specs.Recorded.{at}
use Rattle.model_history.proofs.PlainLaws.{hold_there, hold_early}
use Rattle.model_history.proofs.plain.holds.Goals as goal

pub returns-then-pickup-tick : goal.returns-then-pickup-tick
returns-then-pickup-tick c =
    hold_there (at c.args.recorded.now) c.args.pickup c.args.tick c.is_on_throughout.result
    c.if-pickup-tick.true c.is_on_throughout.ensures

pub returns-else-pickup-tick : goal.returns-else-pickup-tick
returns-else-pickup-tick c =
    hold_early (at c.args.recorded.now) c.args.pickup c.args.tick c.if-pickup-tick.false
