use Rattle.std.proofs.Common.{◌∙◌}
use Rattle.model_line.proofs.Copying as copying
use Rattle.model_line.proofs.line.Line.copy.Goals as goal

pub invariant_of-result : goal.invariant_of-result
invariant_of-result c =
    let line = c.args.self.now in
    let terminals = c.in_ok-terminals.ensures.items ∙ c.deref.ensures.value in
    let channels = c.in_ok-channels.ensures.items ∙ c.deref-2.ensures.value in
    let params = c.in_ok-params.ensures.items ∙ c.deref-3.ensures.value in
    record {
      tick_in_range = line.tick_in_range;
      horizon_in_range = line.horizon_in_range;
      two_or_three = copying.two_or_three line _ _ _ terminals channels params;
      plain_names = copying.plain_names line _ _ _ terminals channels params;
      names_once = copying.names_once line _ _ _ terminals channels params;
      flags_by_scheme = copying.flags_by_scheme line _ _ _ terminals channels params;
      pairs_once = copying.pairs_once line _ _ _ terminals channels params;
      param_names = copying.param_names line _ _ _ terminals channels params;
      ends_in_range = copying.ends_in_range line _ _ _ terminals channels params;
      delays_from_one = copying.delays_from_one line _ _ _ terminals channels params;
    }
