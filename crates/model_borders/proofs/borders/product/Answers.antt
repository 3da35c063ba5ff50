use Rattle.std.proofs.Common.{◌*◌, ◌≤◌, arith}
use Rattle.std.proofs.Math.Nat.{mul-le-mul}
use Rattle.model_borders.proofs.borders.product.Goals as goal

pub overflow_mul-result : goal.overflow_mul-result
overflow_mul-result c =
    let most : c.args.times * c.args.ticks ≤ 255 * 4000 = mul-le-mul c.requires.times c.requires.ticks in
    record { fits = omega (arith, most) }

pub returns-clause-limited : goal.returns-clause-limited
returns-clause-limited c = mul-le-mul c.requires.times c.requires.ticks
