-- Keys that change, and the gates that hear them.
use Rattle.run_signal.specs.Signals.{SignalOf}
use Rattle.std.specs.Prelude.{◌≡◌, ◌<◌, ◌≤◌, ◌+◌, ◌-◌, ◌⊎◌, ℕ, List, Some, length, slice_get}
use Rattle.run_signal.specs.SentKeys.{SentKeys}
use Rattle.net_gates.specs.{declared.gate.Gate.Gate, NetOf.NetOf, NetOf.key_of, Readers.Hears}
use Rattle.run_step.specs.declared.delays.Delay.{Delay}

-- a key was sent, and the value is the last one in each lane
pub record IsLastKey {V S : Type 0} (signal : SignalOf V S) (keys : List V) (value : V)
    : Type 0 where
  pub some : 1 ≤ length keys
  pub same : (last : V) → slice_get keys (length keys - 1) ≡ Some last
      → (lane : ℕ) → lane < signal.lanes → signal.rails last lane ≡ signal.rails value lane

-- so it is of each terminal's key
abbrev pub AreLastKeys : {V S : Type 0} → SignalOf V S → NetOf → List V → List (SentKeys V)
    → Type 0
AreLastKeys signal net column sent =
    (k : ℕ) (s : SentKeys _) (x : _) → slice_get sent k ≡ Some s
    → slice_get column (key_of net k) ≡ Some x → IsLastKey signal s.keys x

-- each gate of the list is due at a tick, if not before
abbrev pub AreSoon : ℕ → List ℕ → List ℕ → Type 0
AreSoon first list dues =
    (k i due : ℕ) → slice_get list k ≡ Some i → slice_get dues i ≡ Some due → due ≤ first

-- so is each gate that hears this channel
abbrev pub AreHearersSoon : ℕ → ℕ → List Gate → List ℕ → Type 0
AreHearersSoon first c gates dues =
    (i due : ℕ) (gate : Gate) → slice_get gates i ≡ Some gate → Hears c gate
    → slice_get dues i ≡ Some due → due ≤ first

-- over a channel with this delay: the key is the last one that was sent, or those that hear it are
-- due when it first arrives
abbrev pub IsHeard : {V S : Type 0} → SignalOf V S → NetOf → List V → ℕ → Delay S
    → List (SentKeys V) → ℕ → List ℕ → Type 0
IsHeard signal net column c delay sent t dues =
    ((s : SentKeys _) (x : _) → slice_get sent delay.from ≡ Some s
    → slice_get column (key_of net delay.from) ≡ Some x → IsLastKey signal s.keys x)
    ⊎ AreHearersSoon (t + delay.soonest) c net.gates dues

-- so it is of the first n channels
abbrev pub AreHeard : {V S : Type 0} → SignalOf V S → NetOf → List V → ℕ
    → List (Delay S) → List (SentKeys V) → ℕ → List ℕ → Type 0
AreHeard signal net column n delays sent t dues =
    (c : ℕ) (d : Delay _) → c < n → slice_get delays c ≡ Some d
    → IsHeard signal net column c d sent t dues
