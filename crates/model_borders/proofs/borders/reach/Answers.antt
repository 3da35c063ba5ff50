use Rattle.std.proofs.Common.{◌≡◌, ◌+◌, ◌-◌, ◌*◌, ℕ, length, ◌∙◌, ap, arith}
use Rattle.std.specs.Prelude.{get_or}
use Rattle.model_history.specs.Rails.{single}
use Rattle.model_borders.specs.Borders.{sum_below, fixed_in, times_in, ends_at, reach}
use Rattle.model_borders.proofs.borders.reach.Goals as goal

pub returns-clause-sum : goal.returns-clause-sum
unfolding reach
returns-clause-sum c =
    let all : c.loop-i.i ≡ length c.args.part.now = omega (arith, c.loop-i-test.false, c.loop-i.auto.i-end) in
    c.loop-i.invariant.sum
    ∙ ap (λ (m : ℕ). fixed_in c.args.borders.now c.args.border
    + sum_below (λ i. (times_in c.args.borders.now c.args.border i - times_in c.args.borders.now c.args.other i)
    * ends_at c.args.late (get_or c.args.part.now i (single 0))) m) all
