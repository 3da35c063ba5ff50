use Rattle.std.proofs.Common.{take}
use Rattle.model_line.specs.Making.{AreParams}
use Rattle.model_line.proofs.params.params_of.Given as goal

abbrev pub invariant-loop-i : goal.invariant-loop-i
invariant-loop-i l = AreParams (take l.i l.names) (take l.i l.bounds) l.params.items
