-- Which gates read a gate, and which hear a channel.
use Rattle.std.specs.Prelude.{◌≡◌, ◌<◌, ◌⊎◌, ℕ, List, Some, slice_get}
use Rattle.net_gates.specs.declared.gate.Gate.{Gate}
use Rattle.net_gates.specs.declared.gate.Gate.TheVariants.{Const, Seen, Loss, Raw, Not, And, Or}
use Rattle.net_gates.specs.declared.gate.Gate.TheVariants.{Timer, Seal}

-- gate a is an argument of the gate
abbrev pub HasArgument : ℕ → Gate → Type 0
HasArgument a (Const v) = ⊥
HasArgument a (Seen p) = ⊥
HasArgument a (Loss c) = ⊥
HasArgument a (Raw c) = ⊥
HasArgument a (Not x) = x.0 ≡ a
HasArgument a (And x y) = (x.0 ≡ a) ⊎ (y.0 ≡ a)
HasArgument a (Or x y) = (x.0 ≡ a) ⊎ (y.0 ≡ a)
HasArgument a (Timer x p d) = x.0 ≡ a
HasArgument a (Seal x y) = (x.0 ≡ a) ⊎ (y.0 ≡ a)

-- the gate is what arrives over channel c
abbrev pub Hears : ℕ → Gate → Type 0
Hears c (Const v) = ⊥
Hears c (Seen p) = ⊥
Hears c (Loss d) = ⊥
Hears c (Raw d) = d ≡ c
Hears c (Not x) = ⊥
Hears c (And x y) = ⊥
Hears c (Or x y) = ⊥
Hears c (Timer x p d) = ⊥
Hears c (Seal x y) = ⊥

-- each channel that a gate hears is below n
abbrev pub HearBelow : ℕ → List Gate → Type 0
HearBelow n gates =
    (i c : ℕ) (gate : Gate) → slice_get gates i ≡ Some gate → Hears c gate → c < n

-- the number stands in the list
abbrev pub StandsIn : ℕ → List ℕ → Type 0
StandsIn i list = (k : ℕ) × (slice_get list k ≡ Some i)

-- each number of the list is below n
abbrev pub AreBelow : ℕ → List ℕ → Type 0
AreBelow n list = (k i : ℕ) → slice_get list k ≡ Some i → i < n

-- each gate that has gate a as an argument stands in the list
abbrev pub HasAllReaders : ℕ → List Gate → List ℕ → Type 0
HasAllReaders a gates list =
    (i : ℕ) (gate : Gate) → slice_get gates i ≡ Some gate → HasArgument a gate → StandsIn i list

-- each gate that is what arrives over channel c stands in the list
abbrev pub HasAllHearers : ℕ → List Gate → List ℕ → Type 0
HasAllHearers c gates list =
    (i : ℕ) (gate : Gate) → slice_get gates i ≡ Some gate → Hears c gate → StandsIn i list
