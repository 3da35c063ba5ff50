use Rattle.cert_own.proofs.known.laws_below.Goals as goal

pub returns : goal.returns
returns c = record {
  lines = c.line_laws.ensures;
  candidates = c.candidates_are_inside.ensures;
  timings = c.timings_inside_are_choices_inside.ensures;
  intervals = c.declared_intervals_are_in_order.ensures;
}
