use Rattle.model_history.proofs.DelayLaws.{delayed_at, delayed_before, single_at, single_before}
use Rattle.model_history.proofs.delay_laws.one_delay_reads_one_tick.Goals as goal

pub returns : goal.returns
returns c = record {
  value = delayed_at;
  value_before = delayed_before;
  rails = single_at;
  rails_before = single_before;
}
