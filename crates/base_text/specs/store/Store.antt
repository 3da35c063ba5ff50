-- What a pull gives of the bytes under a name, and what a whole fetch gives.
use Rattle.std.specs.Prelude.{◌≡◌, ℕ, ◌+◌, ◌<◌, ◌≤◌, List, ◌++◌, length, take, drop, Option, IfSome}
use Rattle.std.specs.Prelude.{⊤}
use Rattle.base_text.specs.{store.Counts.Rose, declared.store.store.FetchFault.FetchFault}
use Rattle.base_text.specs.declared.store.store.FetchFault.TheVariants as fault
use Rattle.base_memory.specs.declared.stopped.Stopped.{Stopped}
use Rattle.base_memory.specs.declared.stopped.Stopped.TheVariants as stopped

-- the first `count` bytes of the piece are those of `bytes` from that place on,
-- and a piece with room gets none only at the end or past it
pub record IsPiece (bytes : List ℕ) (from : ℕ) (piece : List ℕ) (count : ℕ) : Type 0 where
  pub taken : drop from bytes ≡ take count piece ++ drop (from + count) bytes
  pub ended : count ≡ 0 → 0 < length piece → length bytes ≤ from

-- each name's count is as it was
abbrev pub SameCounts : (List ℕ → ℕ) → (List ℕ → ℕ) → Type 0
SameCounts old new = (name : List ℕ) → new name ≡ old name

-- no name's count fell
abbrev pub NoneFell : (List ℕ → ℕ) → (List ℕ → ℕ) → Type 0
NoneFell old new = (name : List ℕ) → old name ≤ new name

-- what a fault of a fetch says of the bytes that the name holds, where they are told
abbrev pub Explains : ℕ → Option (List ℕ) → FetchFault → Type 0
Explains limit held fault.Failed = ⊤
Explains limit held fault.TooLong = IfSome held (λ bytes. limit < length bytes)

-- what the end of a fetch without bytes says of the counts of faults
abbrev pub Counts : List ℕ → (List ℕ → ℕ) → (List ℕ → ℕ) → Stopped FetchFault → Type 0
Counts name old new (stopped.Fault fault.Failed) = Rose (old name) (new name)
Counts name old new (stopped.Fault fault.TooLong) = SameCounts old new
Counts name old new stopped.Memory = SameCounts old new
