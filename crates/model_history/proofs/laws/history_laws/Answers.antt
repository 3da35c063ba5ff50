use Rattle.model_history.proofs.laws.history_laws.Goals as goal

pub returns : goal.returns
returns c = record {
  tests = c.tests_are_their_facts.ensures;
  elements = c.elements_are_their_facts.ensures;
  elements_past = c.elements_read_the_past.ensures;
  elements_grow = c.elements_grow.ensures;
  delays = c.delays_are_their_facts.ensures;
  one_delay = c.one_delay_reads_one_tick.ensures;
  delays_earlier = c.delays_read_earlier_ticks.ensures;
  delays_cover = c.delays_cover.ensures;
  delays_sound = c.delays_stay_sound.ensures;
  delays_single = c.delays_at_single_numbers.ensures;
  covering = c.covering_is_an_order.ensures;
  cover_values = c.rails_cover_values.ensures;
  cover_rails = c.rails_cover_rails.ensures;
  rails_sound = c.rails_stay_sound.ensures;
  rails_single = c.rails_at_single_numbers.ensures;
  rails_past = c.rails_read_the_past.ensures;
  recordings = c.recordings_give_their_ticks.ensures;
  recorded = c.recorded_ticks_suffice.ensures;
}
