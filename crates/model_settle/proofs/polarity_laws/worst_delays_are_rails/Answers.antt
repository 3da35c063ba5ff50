use Rattle.model_settle.proofs.WorstDelays.{worst_within, worst_value}
use Rattle.model_settle.proofs.polarity_laws.worst_delays_are_rails.Goals as goal

pub returns : goal.returns
returns c = record {
  within = worst_within;
  value = λ rail u ends t ordered. worst_value c.history_laws.ensures u ends t ordered rail;
}
