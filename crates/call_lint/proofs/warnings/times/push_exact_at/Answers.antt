use Rattle.std.proofs.Common.{◌≡◌, None, arith}
use Rattle.std.specs.Prelude.{slice_get}
use Rattle.std.proofs.lemmas.Grind.{common_steps}
use Rattle.std.proofs.lemmas.Option.{slice_get_past}
use Rattle.call_lint.proofs.warnings.times.push_exact_at.Goals as goal

pub returns-in-None : goal.returns-in-None
returns-in-None c =
    let none : slice_get c.args.exact.now c.args.i ≡ None =
    slice_get_past c.args.exact.now c.args.i (omega (arith, c.in-None.ensures)) in
    grind (arith, common_steps)
