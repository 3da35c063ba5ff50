use Rattle.call_pilot.specs.{top.SameFactLaws.unknown_by, top.SameScriptLaws.scripts_same}
use Rattle.call_pilot.specs.top.SameFineLaws.{met_by_fractions}
use Rattle.call_pilot.specs.top.SameValueLaws.{failed_by, met_by_all, same_but_params}
use Rattle.call_pilot.proofs.top.laws.what_is_met_rests_on_the_values.Goals as goal

pub returns : goal.returns
returns c = record {
  met = λ line other script copy k lines scripts met.
      met_by_all c.counts_do_not_rest_on_the_intervals.ensures
      c.histories_do_not_rest_on_the_intervals.ensures line other lines script copy scripts k met;
  met_by_fractions = λ line other script copy k lines scripts met.
      met_by_fractions c.counts_do_not_rest_on_the_intervals.ensures
      c.histories_do_not_rest_on_the_intervals.ensures
      c.trees_do_not_rest_on_the_intervals.ensures line other lines script copy scripts k met;
  failed = λ line other script copy k numbers lines scripts fails.
      failed_by c.counts_do_not_rest_on_the_intervals.ensures
      c.histories_do_not_rest_on_the_intervals.ensures line other lines script copy scripts k
      numbers fails;
  unknown = λ line other script copy k lines scripts is.
      unknown_by c.counts_do_not_rest_on_the_intervals.ensures
      c.histories_do_not_rest_on_the_intervals.ensures line other lines script copy scripts k is;
  scripts = λ line other bytes lines.
      scripts_same line other (same_but_params line other lines) bytes;
}
