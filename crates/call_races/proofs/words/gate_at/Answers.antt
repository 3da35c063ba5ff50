use Rattle.std.proofs.Common.{◌<◌, ℕ, arith}
use Rattle.net_gates.specs.Gates.{HasArguments}
use Rattle.net_gates.specs.declared.gate.Gate.{Gate}
use Rattle.net_gates.specs.declared.gate.Gate.TheVariants.{Const, Seen, Loss, Raw, Not, And, Or}
use Rattle.net_gates.specs.declared.gate.Gate.TheVariants.{Timer, Seal}
use Rattle.call_races.proofs.words.gate_at.Goals as goal

-- arguments below a gate's number are below the count of gates
below : (i n : ℕ) (g : Gate) → i < n → HasArguments i g → HasArguments n g
below i n (Const v) lt h = tt
below i n (Seen p) lt h = tt
below i n (Loss c) lt h = tt
below i n (Raw c) lt h = tt
below i n (Not a) lt h = omega (arith, lt, h)
below i n (And a b) lt h = (omega (arith, lt, h.0), omega (arith, lt, h.1))
below i n (Or a b) lt h = (omega (arith, lt, h.0), omega (arith, lt, h.1))
below i n (Timer a p d) lt h = omega (arith, lt, h)
below i n (Seal a b) lt h = (omega (arith, lt, h.0), omega (arith, lt, h.1))

pub returns-clause-arguments : goal.returns-clause-arguments
returns-clause-arguments c =
    below c.args.id.0 _ c.gate.result.now c.requires
    (c.len-laws.ensures.laws.gates.earlier c.args.id.0 c.gate.result.now c.gate.ensures.is)
