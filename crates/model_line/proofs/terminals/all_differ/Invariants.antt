use Rattle.std.proofs.Common.{◌≢◌, ℕ, ◌<◌, [], get_or}
use Rattle.model_line.specs.Terminals.{NamesDiffer, names_of}
use Rattle.model_line.proofs.terminals.all_differ.Given as goal

abbrev pub invariant-loop-k : goal.invariant-loop-k
invariant-loop-k l = NamesDiffer l.terminals l.k

abbrev pub invariant-loop-j : goal.invariant-loop-j
invariant-loop-j l =
    NamesDiffer l.terminals l.k
    × ((j : ℕ) → j < l.j →
    get_or (names_of l.terminals) j [] ≢ get_or (names_of l.terminals) l.k [])
