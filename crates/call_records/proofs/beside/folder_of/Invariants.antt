use Rattle.std.proofs.Common.{◌≡◌, ◌≤◌, ◌<◌, ◌==◌, ℕ, not, true, get_or, length}
use Rattle.call_records.proofs.beside.folder_of.Given as goal

abbrev pub invariant-loop-n : goal.invariant-loop-n
invariant-loop-n l = record {
  inside : l.n ≤ length l.name;
  passed : (k : ℕ) → l.n ≤ k → k < length l.name → not (get_or l.name k 0 == 47) ≡ true;
}

abbrev pub decreases-loop-n : goal.decreases-loop-n
decreases-loop-n l = l.n
