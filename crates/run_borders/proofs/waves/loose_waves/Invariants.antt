use Rattle.std.proofs.Common.{◌≡◌, length}
use Rattle.run_waves.specs.derived.Claims.{pairs_of}
use Rattle.run_borders.specs.LooseRuns.{net_of}
use Rattle.run_borders.specs.LooseWaves.{AreGateWaves, AreRightBefore}
use Rattle.run_borders.proofs.waves.loose_waves.Given as goal

abbrev pub invariant-loop : goal.invariant-loop
invariant-loop l = record {
  count : length l.keys.items ≡ length (net_of l.run).keys;
  waves : AreGateWaves l.run (pairs_of l.keys.items) l.waves.items;
  right : AreRightBefore l.run (pairs_of l.keys.items) l.waves.items l.counter;
}
