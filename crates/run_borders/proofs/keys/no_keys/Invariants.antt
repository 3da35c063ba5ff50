use Rattle.std.proofs.Common.{◌≡◌, length, []}
use Rattle.run_borders.proofs.Lists.{Each}
use Rattle.run_borders.proofs.keys.no_keys.Given as goal

abbrev pub invariant-loop : goal.invariant-loop
invariant-loop l = record {
  keys : Each (λ j key. length key ≡ l.horizon) [] l.keys.items l.counter;
}
