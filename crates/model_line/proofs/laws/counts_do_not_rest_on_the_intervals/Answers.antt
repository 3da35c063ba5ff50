use Rattle.model_line.specs.SameCountLaws.{terminals_same, channels_same, params_same, delay_same}
use Rattle.model_line.specs.SameCountLaws.{is_delay_same}
use Rattle.model_line.proofs.laws.counts_do_not_rest_on_the_intervals.Goals as goal

pub returns : goal.returns
returns c = record {
  terminals = terminals_same;
  channels = channels_same;
  params = params_same;
  delays = λ line other k same. delay_same line other same k;
  told = λ line other i same. is_delay_same line other same i;
}
