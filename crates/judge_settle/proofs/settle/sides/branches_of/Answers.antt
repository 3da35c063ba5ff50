use Rattle.std.proofs.Common.{Option, subst}
use Rattle.std.specs.Prelude.{IfSome}
use Rattle.judge_settle.specs.settle.Sides.{AreSides}
use Rattle.judge_settle.specs.declared.settle.sides.BothSides.{BothSides}
use Rattle.judge_settle.proofs.settle.sides.branches_of.Goals as goal

pub returns : goal.returns
returns c =
    let line = c.args.line.now in
    let view = c.args.view.now in
    let cut = c.args.chosen.cut in
    let sides : AreSides line view cut c.in-Some.sides.first c.in-Some.sides.second =
    subst (λ (o : Option BothSides). IfSome o (λ s. AreSides line view cut s.first s.second))
    c.in-Some.is c.in_ok-sides.ensures in
    record {
      first = record { view = c.in-Some.sides.first; side = c.args.chosen.first };
      second = record { view = c.in-Some.sides.second; side = c.args.chosen.second };
      sides = sides;
      ordered = c.worse_first-branches.ensures;
    }
