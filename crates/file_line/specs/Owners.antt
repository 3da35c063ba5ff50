-- That an owner is one of a line's is a fact.
use Rattle.std.specs.Coded.{le_prop}
use Rattle.model_line.specs.declared.line.Owner.TheVariants as owner
use Rattle.model_line.specs.{declared.line.Line.Line, declared.line.Owner.Owner, Parameters.IsOwner}

pub IsOwner-prop : (line : Line) (o : Owner) → IsProp (IsOwner line o)
IsOwner-prop line (owner.Terminal k) = le_prop
IsOwner-prop line (owner.Channel c) = le_prop
