-- Which gates are to be looked at where one changes, and where a key does.
use Rattle.run_signal.specs.Signals.{SignalOf}
use Rattle.std.specs.Prelude.{◌≡◌, ◌<◌, ◌≤◌, ◌⊎◌, ℕ, List, Some, slice_get}
use Rattle.net_gates.specs.{declared.gate.Gate.Gate, Readers.HasArgument}

-- each due tick is the old one or 0
abbrev pub AreLowered : List ℕ → List ℕ → Type 0
AreLowered old new =
    (i due : ℕ) → slice_get new i ≡ Some due → (due ≡ 0) ⊎ (slice_get old i ≡ Some due)

-- each gate of the list is due at once
abbrev pub AreAwake : List ℕ → List ℕ → Type 0
AreAwake list dues =
    (k i due : ℕ) → slice_get list k ≡ Some i → slice_get dues i ≡ Some due → due ≡ 0

-- so is each gate that has this one as an argument
abbrev pub AreReadersAwake : ℕ → List Gate → List ℕ → Type 0
AreReadersAwake a gates dues =
    (i due : ℕ) (gate : Gate) → slice_get gates i ≡ Some gate → HasArgument a gate
    → slice_get dues i ≡ Some due → due ≡ 0

-- they are, or the value is the last one in each lane
abbrev pub IsTold : {V S : Type 0} → SignalOf V S → ℕ → List Gate → V → V → List ℕ → Type 0
IsTold signal a gates value last dues =
    AreReadersAwake a gates dues
    ⊎ ((lane : ℕ) → lane < signal.lanes → signal.rails value lane ≡ signal.rails last lane)

-- no due tick is later than the old one
abbrev pub AreHastened : List ℕ → List ℕ → Type 0
AreHastened old new =
    (i due : ℕ) → slice_get new i ≡ Some due
    → (before : ℕ) → slice_get old i ≡ Some before → due ≤ before
