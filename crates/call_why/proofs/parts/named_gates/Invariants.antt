use Rattle.std.proofs.Common.{◌≡◌, ◌<◌, ℕ, false, length, get_or}
use Rattle.std.specs.Prelude.{is_some}
use Rattle.call_why.specs.Parts.{part_of}
use Rattle.call_why.proofs.parts.named_gates.Given as goal

abbrev pub invariant-loop-i : goal.invariant-loop-i
invariant-loop-i l =
    (length l.named.items ≡ l.i)
    × ((j : ℕ) → j < l.i
    → get_or l.named.items j false ≡ is_some (part_of l.compiled.line.now l.compiled.net.now j))
