use Rattle.std.proofs.Common.{◌≡◌, []}
use Rattle.std.specs.Prelude.{get_or}
use Rattle.net_gates.specs.NetOf.{key_of}
use Rattle.run_borders.proofs.Lists.{Each}
use Rattle.run_borders.proofs.keys.derived_keys.Given as goal

abbrev pub invariant-loop-k : goal.invariant-loop-k
invariant-loop-k l = record {
  keys : Each (λ j key. key ≡ get_or l.waves (key_of l.net j) []) [] l.keys.items l.k;
}
