use Rattle.model_line.specs.PositionLaws.{terminal_number, channel_number_of}
use Rattle.model_line.specs.NumberLaws.{length-line_settings, number_within}
use Rattle.model_line.specs.DelayLaws.{delay_within}
use Rattle.model_line.proofs.Counts.{few_params}
use Rattle.model_line.proofs.laws.parameters_are_numbered.Goals as goal

pub returns : goal.returns
returns c = record {
  count = length-line_settings;
  few = few_params;
  within = number_within;
  delays = delay_within;
  of_terminal = terminal_number;
  of_channel = channel_number_of;
}
