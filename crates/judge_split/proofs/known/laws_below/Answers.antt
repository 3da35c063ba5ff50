use Rattle.judge_split.proofs.known.laws_below.Goals as goal

pub returns : goal.returns
returns c = record {
  lines = c.line_laws.ensures;
  counts = c.counts_do_not_rest_on_the_intervals.ensures;
  histories = c.histories_do_not_rest_on_the_intervals.ensures;
  changed = c.a_changed_interval_changes_the_box.ensures;
  another = c.a_box_with_another_interval.ensures;
  intervals = c.declared_intervals_are_in_order.ensures;
  held = c.the_rule_over_a_box.ensures;
  candidates = c.candidates_are_inside.ensures;
  timings = c.timings_inside_are_choices_inside.ensures;
}
