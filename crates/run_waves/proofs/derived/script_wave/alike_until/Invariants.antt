use Rattle.std.proofs.Common.{◌<◌, ◌≤◌, take}
use Rattle.std.specs.List.{All}
use Rattle.run_waves.specs.derived.Stretches.{ShowsAlike}
use Rattle.run_waves.proofs.derived.script_wave.alike_until.Given as goal

abbrev pub invariant-loop-i : goal.invariant-loop-i
invariant-loop-i l = record {
  later : l.t < l.end;
  inside : l.end ≤ l.horizon;
  alike : All (ShowsAlike l.what l.t l.end) (take l.i l.spans);
}
