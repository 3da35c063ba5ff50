use Rattle.model_fine.proofs.WholeTicks.{within_one, history_one, meets_one, every_whole, one_fails}
use Rattle.model_fine.proofs.fine_laws.whole_ticks_are_the_case_of_one.Goals as goal

pub returns : goal.returns
returns c = record {
  within = within_one;
  histories = history_one;
  meets = meets_one;
  every = every_whole;
  fails = one_fails;
}
