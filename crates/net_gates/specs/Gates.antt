-- What every list of gates keeps: each argument is an earlier gate, and no two gates are equal.
use Rattle.std.specs.Prelude.{◌≡◌, ◌<◌, ◌≤◌, ℕ, List, Some, length, slice_get}
use Rattle.net_gates.specs.declared.gate.Gate.{Gate}
use Rattle.net_gates.specs.declared.gate.Gate.TheVariants.{Const, Seen, Loss, Raw, Not, And, Or}
use Rattle.net_gates.specs.declared.gate.Gate.TheVariants.{Timer, Seal}

-- each argument of the gate is below n
abbrev pub HasArguments : ℕ → Gate → Type 0
HasArguments n (Const v) = Unit {0}
HasArguments n (Seen p) = Unit {0}
HasArguments n (Loss c) = Unit {0}
HasArguments n (Raw c) = Unit {0}
HasArguments n (Not a) = a.0 < n
HasArguments n (And a b) = (a.0 < n) × (b.0 < n)
HasArguments n (Or a b) = (a.0 < n) × (b.0 < n)
HasArguments n (Timer a p d) = a.0 < n
HasArguments n (Seal a b) = (a.0 < n) × (b.0 < n)

-- there are at most 512 gates, every argument is an earlier gate, and no two gates are equal
pub record AreGates (gates : List Gate) : Type 0 where
  pub few : length gates ≤ 512
  pub earlier : (i : ℕ) (g : Gate) → slice_get gates i ≡ Some g → HasArguments i g
  pub distinct : (i j : ℕ) (g : Gate) → slice_get gates i ≡ Some g → slice_get gates j ≡ Some g
      → i ≡ j
