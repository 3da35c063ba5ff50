use Rattle.run_step.specs.Ticks.{AreFresh}
use Rattle.run_step.proofs.fresh.fresh_tracks.Given as goal

abbrev pub invariant-loop : goal.invariant-loop
invariant-loop g l = AreFresh l.counter l.horizon l.tracks.items
