use Rattle.std.proofs.Common.{refl}
use Rattle.model_line.specs.DelayLaws.{delay_at, is_delay_within, is_delay_from_one}
use Rattle.model_line.specs.Parameters.{delay_param}
use Rattle.model_line.proofs.laws.delays_are_parameters.Goals as goal

pub returns : goal.returns
returns c = record {
  told = λ line channel lt. delay_at line channel (delay_param line channel) lt refl;
  exists = is_delay_within;
  from_one = is_delay_from_one;
}
