use Rattle.std.proofs.Common.{◌≤◌, arith, length, ap}
use Rattle.model_line.proofs.Counts.{few_params}
use Rattle.model_line.proofs.line.Line.param_count.Goals as goal

pub overflow_cast-result : goal.overflow_cast-result
overflow_cast-result c =
    let few : length c.args.self.now.params.items ≤ 63 = few_params c.args.self.now in
    record { fits = omega (arith, ap length c.deref-params.ensures.value) }

pub returns-clause-few : goal.returns-clause-few
returns-clause-few c =
    let few : length c.args.self.now.params.items ≤ 63 = few_params c.args.self.now in
    omega (arith, ap length c.deref-params.ensures.value)
