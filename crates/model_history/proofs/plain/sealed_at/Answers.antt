use Rattle.std.proofs.Common.{◌∙◌, sym, arith}
use Rattle.model_history.specs.Recorded.{at}
use Rattle.model_history.proofs.PlainLaws.{sealed_on, sealed_off}
use Rattle.model_history.proofs.plain.sealed_at.Goals as goal

pub returns-then-is_on_throughout : goal.returns-then-is_on_throughout
returns-then-is_on_throughout c =
    sealed_on (at c.args.set.now) (at c.args.keep.now) c.loop-start.start c.args.tick
    (omega arith) (sym c.is_on.ensures ∙ c.if-is_on.true)
    (c.is_on_throughout.ensures.0 c.if-is_on_throughout.true)

pub returns : goal.returns
returns c =
    sealed_off (at c.args.set.now) (at c.args.keep.now) c.args.tick
    (λ s lt. c.loop-start.invariant s (omega arith))
