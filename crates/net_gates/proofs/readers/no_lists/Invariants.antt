use Rattle.std.proofs.Common.{◌≡◌, ℕ, length, Some, []}
use Rattle.std.specs.Prelude.{slice_get}
use Rattle.net_gates.proofs.readers.no_lists.Given as goal

abbrev pub invariant-loop : goal.invariant-loop
invariant-loop l = record {
  count : length l.lists.items ≡ l.counter;
  empty : (a : ℕ) (list : _) → slice_get l.lists.items a ≡ Some list → list.items ≡ [];
}
