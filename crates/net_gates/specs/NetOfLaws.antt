-- That a net is the net of a line is a fact.
use Rattle.std.specs.Prelude.{ℕ, Bool}
use Rattle.std.specs.Coded.{le_prop}
use Rattle.std.proofs.Props.{props}
use Rattle.model_line.specs.{declared.line.Line.Line, declared.script.Place.Place}
use Rattle.model_logic.specs.{declared.time.Time.Time, Names.HasTime, Tree.Tree, Tree.Tree-set}
use Rattle.model_logic.specs.declared.time.Time.TheVariants.{Zero, Param}
use Rattle.net_gates.specs.declared.gate.Gate.{Gate}
use Rattle.net_gates.specs.declared.gate.Gate.TheVariants.{Const, Seen, Loss, Raw, Not, And, Or}
use Rattle.net_gates.specs.declared.gate.Gate.TheVariants.{Timer, Seal}
use Rattle.net_gates.specs.{Gates.HasArguments, Named.GateNames, NetOf.NetOf, NetOf.IsNetOf}

HasArguments-prop : (n : ℕ) (g : Gate) → IsProp (HasArguments n g)
HasArguments-prop n (Const v) = Prim.hlevel
HasArguments-prop n (Seen p) = Prim.hlevel
HasArguments-prop n (Loss c) = Prim.hlevel
HasArguments-prop n (Raw c) = Prim.hlevel
HasArguments-prop n (Not a) = le_prop
HasArguments-prop n (And a b) = Prim.hlevel le_prop
HasArguments-prop n (Or a b) = Prim.hlevel le_prop
HasArguments-prop n (Timer a p d) = le_prop
HasArguments-prop n (Seal a b) = Prim.hlevel le_prop

HasTime-prop : (line : Line) (x : Time) → IsProp (HasTime line x)
HasTime-prop line Zero = Prim.hlevel
HasTime-prop line (Param i) = le_prop

GateNames-prop : (line : Line) (g : Gate) → IsProp (GateNames line g)
GateNames-prop line (Const v) = Prim.hlevel
GateNames-prop line (Seen p) = le_prop
GateNames-prop line (Loss c) = le_prop
GateNames-prop line (Raw c) = le_prop
GateNames-prop line (Not a) = Prim.hlevel
GateNames-prop line (And a b) = Prim.hlevel
GateNames-prop line (Or a b) = Prim.hlevel
GateNames-prop line (Timer a p d) =
    Prim.hlevel (HasTime-prop line p, HasTime-prop line d)
GateNames-prop line (Seal a b) = Prim.hlevel

place_set : IsSet Place
place_set = Prim.hlevel props

time_set : IsSet Time
time_set = Prim.hlevel props

bool_set : IsSet Bool
bool_set = Prim.hlevel props

tree_set : IsSet Tree
tree_set = Prim.hlevel (props, Tree-set, place_set, time_set, bool_set)

pub IsNetOf-prop : (line : Line) (net : NetOf) → IsProp (IsNetOf line net)
IsNetOf-prop line net =
    Prim.hlevel (props, le_prop, HasArguments-prop, GateNames-prop, tree_set)
