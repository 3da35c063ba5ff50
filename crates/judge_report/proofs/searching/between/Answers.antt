use Rattle.std.proofs.Common.{arith}
use Rattle.judge_report.proofs.MarginLaws.{bracket_margin, bracket_lost}
use Rattle.judge_report.proofs.searching.between.Goals as goal

pub returns : goal.returns
returns c = (
  bracket_margin c.laws_below.ensures c.args.compiled.now.line.now c.args.scripts.now c.args.param
      c.requires.fit c.halving.low
      c.halving.high c.halving.lost c.halving.invariant (omega (arith, c.halving-test.false)),
  bracket_lost c.laws_below.ensures c.args.compiled.now.line.now c.args.scripts.now c.args.param
      c.requires.fit c.halving.low
      c.halving.high c.halving.lost c.halving.invariant
      (omega (arith, c.halving-test.false)),
)
