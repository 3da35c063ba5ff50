use Rattle.judge_races.proofs.NowLaws.{value_now, rail_now}
use Rattle.judge_races.proofs.laws.what_reaches_now_is_on.Goals as goal

pub returns : goal.returns
returns c = record {
  values = value_now c.history_laws.ensures.elements;
  rails = rail_now c.history_laws.ensures.elements;
}
