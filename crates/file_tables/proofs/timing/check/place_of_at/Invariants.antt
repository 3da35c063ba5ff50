use Rattle.std.proofs.Common.{◌≡◌, ◌<◌, ℕ, false, get_or}
use Rattle.file_tables.specs.timing.Checks.{is_at}
use Rattle.file_tables.proofs.timing.check.place_of_at.Given as goal

abbrev pub invariant-loop-i : goal.invariant-loop-i
invariant-loop-i l = (k : ℕ) → k < l.i → is_at (get_or l.field k 0) ≡ false
