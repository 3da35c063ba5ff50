-- The `==` of gates is equality.
use Rattle.std.proofs.Common.{◌≡◌, Bool, true, rules}
use Rattle.net_gates.specs.{declared.gate.Gate.Gate, contracts.gate.GatePartialEq.TheImpl.eq-value}

abbrev pub gate_eq : Gate → Gate → Bool
gate_eq = eq-value.it

pub gate_eq-same : (x y : Gate) → gate_eq x y ≡ true → x ≡ y
gate_eq-same x y h = search rules

pub gate_eq-refl : (x : Gate) → gate_eq x x ≡ true
gate_eq-refl x = search rules
