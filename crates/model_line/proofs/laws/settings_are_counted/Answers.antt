use Rattle.model_line.proofs.Counts.{one_terminal_more, setting_count}
use Rattle.model_line.specs.PositionLaws.{delay_number_is}
use Rattle.model_line.proofs.laws.settings_are_counted.Goals as goal

pub returns : goal.returns
returns c = record {
  terminals = one_terminal_more;
  all = setting_count;
  delays = λ s ts cs c n k lt before each. delay_number_is s ts cs c n k lt before each;
}
