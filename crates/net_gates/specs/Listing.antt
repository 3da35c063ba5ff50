-- The lists of those that read a gate or hear a channel, while they are made.
use Rattle.std.specs.Prelude.{◌≡◌, ◌<◌, ℕ, List, Some, length, slice_get}
use Rattle.net_gates.specs.declared.gate.Gate.{Gate}
use Rattle.net_gates.specs.declared.gate.Gate.TheVariants.{Const, Seen, Loss, Raw, Not, And, Or}
use Rattle.net_gates.specs.declared.gate.Gate.TheVariants.{Timer, Seal}
use Rattle.net_gates.specs.declared.readers.Readers.{Readers}
use Rattle.net_gates.specs.Readers.{AreBelow, HasArgument, HearBelow, Hears, StandsIn}

-- the gate reads no gate and hears no channel: it is constant, shown or lost
abbrev pub ReadsNone : Gate → Type 0
ReadsNone (Const v) = Unit {0}
ReadsNone (Seen p) = Unit {0}
ReadsNone (Loss c) = Unit {0}
ReadsNone (Raw c) = ⊥
ReadsNone (Not x) = ⊥
ReadsNone (And x y) = ⊥
ReadsNone (Or x y) = ⊥
ReadsNone (Timer x p d) = ⊥
ReadsNone (Seal x y) = ⊥

-- the gate has gate a as its one argument
abbrev pub ReadsOne : ℕ → Gate → Type 0
ReadsOne a (Const v) = ⊥
ReadsOne a (Seen p) = ⊥
ReadsOne a (Loss c) = ⊥
ReadsOne a (Raw c) = ⊥
ReadsOne a (Not x) = x.0 ≡ a
ReadsOne a (And x y) = ⊥
ReadsOne a (Or x y) = ⊥
ReadsOne a (Timer x p d) = x.0 ≡ a
ReadsOne a (Seal x y) = ⊥

-- the gate has gates a and b as its two arguments
abbrev pub ReadsTwo : ℕ → ℕ → Gate → Type 0
ReadsTwo a b (Const v) = ⊥
ReadsTwo a b (Seen p) = ⊥
ReadsTwo a b (Loss c) = ⊥
ReadsTwo a b (Raw c) = ⊥
ReadsTwo a b (Not x) = ⊥
ReadsTwo a b (And x y) = (x.0 ≡ a) × (y.0 ≡ b)
ReadsTwo a b (Or x y) = (x.0 ≡ a) × (y.0 ≡ b)
ReadsTwo a b (Timer x p d) = ⊥
ReadsTwo a b (Seal x y) = (x.0 ≡ a) × (y.0 ≡ b)

-- there is a list for each gate, and all lists are of gates
pub record ListGates (n : ℕ) (readers : Readers) : Type 0 where
  pub count : length readers.of_gates.items ≡ n
  pub inside : (a : ℕ) (list : _) → slice_get readers.of_gates.items a ≡ Some list
      → AreBelow n list.items
  pub heard_inside : (c : ℕ) (list : _) → slice_get readers.of_channels.items c ≡ Some list
      → AreBelow n list.items

-- each gate stands in the lists of those that it reads, and of the channel that it hears
pub record IsListed (i : ℕ) (gate : Gate) (readers : Readers) : Type 0 where
  pub read : (a : ℕ) (list : _) → HasArgument a gate
      → slice_get readers.of_gates.items a ≡ Some list → StandsIn i list.items
  pub heard : (c : ℕ) (list : _) → Hears c gate
      → slice_get readers.of_channels.items c ≡ Some list → StandsIn i list.items

-- so it is of the first n of the gates, and there is a list for each channel that a gate hears
pub record ReadersSoFar (gates : List Gate) (n : ℕ) (readers : Readers) : Type 0 where
  pub of_gates : ListGates (length gates) readers
  pub of_channels : HearBelow (length readers.of_channels.items) gates
  pub listed : (i : ℕ) (gate : Gate) → i < n → slice_get gates i ≡ Some gate
      → IsListed i gate readers

-- so it is of each of the gates
pub record ReadersHold (gates : List Gate) (readers : Readers) : Type 0 where
  pub of_gates : ListGates (length gates) readers
  pub of_channels : HearBelow (length readers.of_channels.items) gates
  pub listed : (i : ℕ) (gate : Gate) → slice_get gates i ≡ Some gate → IsListed i gate readers

-- whatever stood in the lists still does, and there are as many
pub record ListsGrow (old new : Readers) : Type 0 where
  pub gates_are : length new.of_gates.items ≡ length old.of_gates.items
  pub channels_are : length new.of_channels.items ≡ length old.of_channels.items
  pub read : (i a : ℕ) (list : _) → slice_get new.of_gates.items a ≡ Some list
      → ((list' : _) → slice_get old.of_gates.items a ≡ Some list' → StandsIn i list'.items)
      → StandsIn i list.items
  pub heard : (i c : ℕ) (list : _) → slice_get new.of_channels.items c ≡ Some list
      → ((list' : _) → slice_get old.of_channels.items c ≡ Some list' → StandsIn i list'.items)
      → StandsIn i list.items
