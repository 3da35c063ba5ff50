use Rattle.std.proofs.Common.{◌-◌, ◌∙◌, sym, arith}
use Rattle.model_history.specs.Recorded.{at}
use Rattle.model_history.proofs.PlainLaws.{timed_on, timed_off, no_hold_more}
use Rattle.model_history.proofs.plain.timed_at.Goals as goal

pub returns-then-holds : goal.returns-then-holds
returns-then-holds c =
    timed_on (at c.args.recorded.now) c.args.pickup c.args.dropout c.loop-start.start c.args.tick
    (omega arith) (omega arith) (sym c.if-holds.true ∙ c.holds.ensures)

pub loop-start-preserved : goal.loop-start-preserved
loop-start-preserved c =
    no_hold_more (at c.args.recorded.now) c.args.pickup (c.args.tick - c.args.dropout)
    c.loop-start.start c.loop-start.invariant (sym c.if-holds.false ∙ c.holds.ensures)

pub returns : goal.returns
returns c =
    timed_off (at c.args.recorded.now) c.args.pickup c.args.dropout c.args.tick
    (λ s past lasts holds. c.loop-start.invariant s (omega arith) (omega arith) holds)
