-- What the gates of a net name and rest on.
use Rattle.std.proofs.Common.{◌≡◌, ℕ, Some, subst, arith}
use Rattle.std.specs.Prelude.{slice_get}
use Rattle.model_line.specs.declared.line.Line.{Line}
use Rattle.net_gates.specs.declared.gate.Gate.{Gate}
use Rattle.net_gates.specs.{Gates.HasArguments, Named.GateNames, NetOf.NetOf, NetOf.IsNet}
use Rattle.net_gates.specs.NetOf.{IsNetOf}

-- the arguments of a gate stand before it
pub arguments : (net : NetOf) (i : ℕ) (g h : Gate) → IsNet net → slice_get net.gates i ≡ Some g
    → g ≡ h → HasArguments i h
arguments net i g h laws at is = subst (HasArguments i) is (laws.gates.earlier i g at)

-- it names what the line has
pub names : (line : Line) (net : NetOf) (i : ℕ) (g h : Gate) → IsNetOf line net
    → slice_get net.gates i ≡ Some g → g ≡ h → GateNames line h
names line net i g h of_line at is =
    subst (GateNames line) is (of_line.named.each i g (omega arith) at)
