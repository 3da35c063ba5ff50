use Rattle.std.proofs.Common.{arith}
use Rattle.model_line.proofs.DeclaredIntervals.{interval_at}
use Rattle.model_line.proofs.line.Line.least.Goals as goal

pub returns-clause-small : goal.returns-clause-small
returns-clause-small c =
    let (ordered, small) =
    interval_at c.args.self.now c.args.param c.index.result.now c.requires c.index.ensures in
    omega (arith, ordered, small)
