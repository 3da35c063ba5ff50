use Rattle.judge_report.proofs.known.laws_below.Goals as goal

pub returns : goal.returns
returns c = record {
  lines = c.line_laws.ensures;
  counts = c.counts_do_not_rest_on_the_intervals.ensures;
  changed = c.a_changed_interval_changes_the_box.ensures;
  held = c.the_rule_over_a_box.ensures;
}
