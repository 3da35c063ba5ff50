use Rattle.std.proofs.Common.{◌≡◌, take}
use Rattle.call_tables.proofs.trees.claim_of_timing.Given as goal

abbrev pub invariant-loop-value : goal.invariant-loop-value
invariant-loop-value l = l.numbers.items ≡ take l.value-index l.values
