use Rattle.std.proofs.Common.{◌≡◌, ◌<◌, ◌≤◌, ℕ, false, length, get_or}
use Rattle.std.specs.Prelude.{◌==◌}
use Rattle.base_text.proofs.lines.find.find_byte.Given as goal

-- not found so far
abbrev pub invariant-loop-i : goal.invariant-loop-i
invariant-loop-i l =
    (l.i ≤ length l.text) × ((k : ℕ) → k < l.i → (get_or l.text k 0 == l.byte) ≡ false)
