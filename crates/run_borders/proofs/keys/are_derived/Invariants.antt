use Rattle.std.proofs.Common.{◌≡◌, ◌<◌, ℕ, []}
use Rattle.std.specs.Prelude.{get_or}
use Rattle.net_gates.specs.NetOf.{key_of}
use Rattle.run_borders.proofs.keys.are_derived.Given as goal

abbrev pub invariant-loop-k : goal.invariant-loop-k
invariant-loop-k l = record {
  each : (j : ℕ) → j < l.k → get_or l.keys j [] ≡ get_or l.waves (key_of l.net j) [];
}
