use Rattle.std.proofs.Common.{ℕ, subst, sym, arith}
use Rattle.judge_margins.specs.declared.margins.end.Side.{Side}
use Rattle.judge_margins.specs.margins.Widened.{param_at}
use Rattle.judge_slacks.specs.Inward.{CanMoveIn}
use Rattle.call_tables.proofs.slacks.push_row.Goals as goal

pub end_at-param-requires : goal.end_at-param-requires
end_at-param-requires c =
    let few = c.parameters_are_numbered.ensures.few c.args.line.now in
    omega (arith, few, c.requires.place, c.requires.room.count)

pub reached-reached-requires-clause-deep : goal.reached-reached-requires-clause-deep
reached-reached-requires-clause-deep c s is =
    let line = c.args.line.now in
    let place : ℕ = c.args.place in
    subst (λ (n : ℕ). CanMoveIn line n c.end_at-param.result.1 s.by) (sym c.end_at-param.ensures.param)
    (subst (λ (x : Side). CanMoveIn line (param_at place) x s.by) (sym c.end_at-param.ensures.side)
    (c.requires.deep.each place c.lack_of-lack.result.now s c.lack_of-lack.ensures is))
