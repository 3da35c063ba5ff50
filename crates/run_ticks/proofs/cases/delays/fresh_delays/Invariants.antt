use Rattle.std.proofs.Common.{◌≡◌, ℕ, length, Some}
use Rattle.std.specs.Prelude.{slice_get}
use Rattle.model_line.specs.Parameters.{delay_param}
use Rattle.model_line.specs.Channels.{from_of}
use Rattle.run_ticks.specs.declared.cases.delays.Delay.{Delay}
use Rattle.run_ticks.proofs.cases.delays.fresh_delays.Given as goal

abbrev pub invariant-loop-channel : goal.invariant-loop-channel
invariant-loop-channel g l = record {
  count : length l.delays.items ≡ l.channel;
  from : (c : ℕ) (d : Delay _) → slice_get l.delays.items c ≡ Some d
      → d.from ≡ from_of l.line.channels.items c;
  span : (c : ℕ) (d : Delay _) → slice_get l.delays.items c ≡ Some d
      → slice_get l.spans (delay_param l.line c) ≡ Some d.span;
}
