use Rattle.cert_settle.proofs.known.laws_below.Goals as goal

pub returns : goal.returns
returns c = record {
  counts = c.counts_do_not_rest_on_the_intervals.ensures;
  intervals = c.declared_intervals_are_in_order.ensures;
  delays = c.delays_are_parameters.ensures;
  names = c.parameters_have_names_of_their_own.ensures;
}
