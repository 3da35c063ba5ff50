use Rattle.std.proofs.Common.{◌≡◌, ℕ, ◌<◌, length, Some}
use Rattle.std.specs.Prelude.{slice_get}
use Rattle.model_line.specs.Parameters.{delay_param, param_count}
use Rattle.model_line.specs.Channels.{from_of}
use Rattle.run_step.specs.declared.delays.Delay.{Delay}
use Rattle.run_step.proofs.delays.fresh_delays.Given as goal

abbrev pub invariant-loop-channel : goal.invariant-loop-channel
invariant-loop-channel g l = record {
  count : length l.delays.items ≡ l.channel;
  from : (c : ℕ) (d : Delay _) → slice_get l.delays.items c ≡ Some d
      → d.from ≡ from_of l.line.channels.items c;
  param : (c : ℕ) (d : Delay _) → slice_get l.delays.items c ≡ Some d
      → d.param ≡ delay_param l.line c;
  there : (c : ℕ) (d : Delay _) → slice_get l.delays.items c ≡ Some d
      → d.param < param_count l.line;
  over : (c : ℕ) (d : Delay _) → slice_get l.delays.items c ≡ Some d → d.until ≡ 0;
}
