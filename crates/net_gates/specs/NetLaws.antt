-- Laws of gates and nets that proofs above cite.
use Rattle.std.specs.Prelude.{◌≡◌, ◌<◌, ℕ, List, Some, slice_get}
use Rattle.std.proofs.Common.{subst, arith}
use Rattle.model_line.specs.Parameters.{channel_count}
use Rattle.model_line.specs.declared.line.Line.{Line}
use Rattle.model_logic.specs.Names.{Names}
use Rattle.net_gates.specs.declared.gate.Gate.{Gate}
use Rattle.net_gates.specs.declared.gate.Gate.TheVariants.{Const, Seen, Loss, Raw, Not, And, Or}
use Rattle.net_gates.specs.declared.gate.Gate.TheVariants.{Timer, Seal}
use Rattle.net_gates.specs.{Gates.AreGates, Formulas.formula_of, Formulas.kind_over}
use Rattle.net_gates.specs.{Named.GateNames, Named.NamedFrom, Readers.HearBelow, Readers.Hears}

-- each gate stands for its own kind over the trees of its arguments, and where every gate names
-- only what a line has, so do their trees
pub record GatesStandForTheirTrees : Type 0 where
  pub kinds : (gates : List Gate) (i : ℕ) (g : Gate) → AreGates gates
      → slice_get gates i ≡ Some g → formula_of gates i ≡ kind_over gates g
  pub names : (line : Line) (gates : List Gate) (i : ℕ) → NamedFrom line 0 gates
      → Names line (formula_of gates i)

-- the channel that a gate hears is the line's, if what it names is
pub hears_channel : (line : Line) (c : ℕ) (g : Gate) → GateNames line g → Hears c g
    → c < channel_count line
hears_channel line c (Const v) names hears = absurd hears
hears_channel line c (Seen p) names hears = absurd hears
hears_channel line c (Loss d) names hears = absurd hears
hears_channel line c (Raw d) names hears =
    subst (λ (k : ℕ). k < channel_count line) hears names
hears_channel line c (Not x) names hears = absurd hears
hears_channel line c (And x y) names hears = absurd hears
hears_channel line c (Or x y) names hears = absurd hears
hears_channel line c (Timer x p d) names hears = absurd hears
hears_channel line c (Seal x y) names hears = absurd hears

pub hear_channels : (line : Line) (gates : List Gate) → NamedFrom line 0 gates
    → HearBelow (channel_count line) gates
hear_channels line gates named i c g at hears =
    hears_channel line c g (named.each i g (omega arith) at) hears
