use Rattle.std.proofs.Common.{◌+◌, ℕ, subst, arith}
use Rattle.std.proofs.lemmas.Result.{IfOk-weaker}
use Rattle.std.specs.Prelude.{IfOk}
use Rattle.model_line.specs.{Parameters.declared_ends, WithBounds.IsWithBounds}
use Rattle.judge_split.proofs.HalfLaws.{can_split_when, upper_of, mid_small}
use Rattle.judge_split.proofs.part.upper_part.Goals as goal

pub with_bounds-requires-clause-ordered : goal.with_bounds-requires-clause-ordered
with_bounds-requires-clause-ordered c =
    omega (
      arith,
      c.greatest-to.ensures.number,
      (can_split_when c.args.part.now c.args.param c.args.mid c.requires).1,
    )

pub overflow_add-mid : goal.overflow_add-mid
overflow_add-mid c =
    omega (arith, mid_small c.laws_below.ensures c.args.part.now c.args.param c.args.mid c.requires)

pub returns-clause-part : goal.returns-clause-part
returns-clause-part c =
    let part = c.args.part.now in
    let from = c.args.mid + 1 in
    let greatest = (declared_ends part c.args.param).greatest in
    IfOk-weaker c.with_bounds.result
    (λ half. IsWithBounds part c.args.param from greatest half) _
    (λ half is line box p.
    upper_of c.laws_below.ensures line part half box c.args.param c.args.mid c.requires is p)
    (subst
    (λ (n : ℕ). IfOk c.with_bounds.result (λ half. IsWithBounds part c.args.param from n half))
    c.greatest-to.ensures.number c.with_bounds.ensures)
