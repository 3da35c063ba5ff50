use Rattle.std.proofs.Common.{◌≡◌, ◌<◌, ◌≤◌, ℕ, Some}
use Rattle.std.specs.Prelude.{slice_get}
use Rattle.run_changes.specs.declared.rows.standing.Pair.{Pair}
use Rattle.run_changes.proofs.rows.standing.next_change.Given as goal

abbrev pub invariant-loop-pair : goal.invariant-loop-pair
invariant-loop-pair l = record {
  later : (t : ℕ) → t < l.bound
      → ((k : ℕ) (p : Pair) → slice_get l.pairs k ≡ Some p
      → (t < p.key.until) × (t < p.trip.until)) → t < l.next;
  limited : l.next ≤ l.bound;
  least : (k : ℕ) (p : Pair) → k < l.pair-index → slice_get l.pairs k ≡ Some p
      → (l.next ≤ p.key.until) × (l.next ≤ p.trip.until);
}
