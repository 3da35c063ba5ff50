use Rattle.std.proofs.Common.{sym, ◌∙◌, arith}
use Rattle.draw_run.specs.diagram.Times.{is_begun}
use Rattle.draw_run.proofs.diagram.marks.inception.Goals as goal

pub returns-then-begun-clause-first : goal.returns-then-begun-clause-first
returns-then-begun-clause-first c =
    sym ((c.the_first_tick_is_the_least.ensures.some (is_begun c.args.script.now.spans.items)
    c.args.horizon c.loop-t.t).1 (
      omega (arith, c.loop-t-test.true),
      sym c.begun.ensures ∙ c.if-begun.true,
      c.loop-t.invariant,
    ))
