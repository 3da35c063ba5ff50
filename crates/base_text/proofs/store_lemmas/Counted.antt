-- The counts of a store after one pull more.
use Rattle.std.proofs.Common.{◌≡◌, ℕ, ◌+◌, ◌≤◌, ◌<◌, List, min, arith, Ok, Err, IsErrOf}
use Rattle.base_text.specs.store.Counts.{Grew, one_more}
use Rattle.base_text.specs.store.Store.{SameCounts, NoneFell}
use Rattle.base_text.specs.declared.store.store.FetchFault.TheVariants as fault
use Rattle.base_memory.specs.declared.stopped.Stopped.TheVariants as stopped

-- bytes that go past a limit with those of this pull
pub grew_past_limit : (old mid new size count limit : ℕ) → Grew old size mid → Grew mid count new
    → limit < size + count → Grew old (limit + 1) new
grew_past_limit old mid new size count limit before more past = omega arith

-- counts that were the same so far, and did not fall
pub none_fell : (old mid new : List ℕ → ℕ) → SameCounts old mid → NoneFell mid new → NoneFell old new
none_fell old mid new same later = λ name. rw (← same name) (later name)

-- one pull more in a turn
pub pulls_more : (old mid new turn : ℕ) → mid ≤ old + turn → new ≡ one_more mid
    → new ≤ old + (turn + 1)
pulls_more old mid new turn before one = omega arith

-- and within all turns
pub pulls_within : (old mid new turn turns : ℕ) → mid ≤ old + turn → turn < turns
    → new ≡ one_more mid → new ≤ old + turns
pulls_within old mid new turn turns before more one = omega arith

-- so far no byte was given
pub grew_none : (old : ℕ) → Grew old 0 old
grew_none old = omega arith

-- bytes that were given with those of this pull
pub grew_more : (old mid new size count size' : ℕ) → Grew old size mid → Grew mid count new
    → size' ≡ size + count → Grew old size' new
grew_more old mid new size count size' before more long = omega arith

-- a count that was raised did not fall
pub raised-le : (before amount now : ℕ) → now ≡ min (before + amount) 18446744073709551615
    → before < 18446744073709551616 → before ≤ now
raised-le before amount now raised fits = omega arith

-- no other answer is `TooLong`
pub whole_apart : {T P : Type 0} (x : T) → IsErrOf (Ok x) (stopped.Fault fault.TooLong) → P
whole_apart x same = cc

pub failed_apart : {T P : Type 0} → IsErrOf {T = T} (Err (stopped.Fault fault.Failed)) (stopped.Fault fault.TooLong) → P
failed_apart same = cc

pub memory_apart : {T P : Type 0} → IsErrOf {T = T} (Err stopped.Memory) (stopped.Fault fault.TooLong) → P
memory_apart same = cc

-- no count is below 0
pub none_below : {P : Type 0} → 0 < 0 → P
none_below below = absurd (omega arith)
