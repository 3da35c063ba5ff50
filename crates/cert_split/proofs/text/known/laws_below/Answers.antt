use Rattle.cert_split.proofs.text.known.laws_below.Goals as goal

pub returns : goal.returns
returns c = record {
  counts = c.counts_do_not_rest_on_the_intervals.ensures;
  intervals = c.declared_intervals_are_in_order.ensures;
  params = c.parameters_are_numbered.ensures;
  names = c.parameters_have_names_of_their_own.ensures;
  parts = c.a_part_stands_for_its_box.ensures;
  middles = c.middles_are_below_the_greatest_interval.ensures;
}
