use Rattle.call_pilot.proofs.top.record_laws.what_is_recorded_is_true.Goals as goal

pub returns : goal.returns
returns c = record {
  records = c.a_file_says_records_of_the_line.ensures;
  matched = c.what_is_matched_is_true.ensures.text;
  all_given = c.what_is_matched_is_true.ensures.all;
  some_impossible = c.what_is_matched_is_true.ensures.some_impossible;
  some_open = c.what_is_matched_is_true.ensures.some_open;
  played = c.each_play_has_one_text.ensures.only;
}
