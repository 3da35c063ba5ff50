use Rattle.std.proofs.Common.{refl}
use Rattle.call_times.proofs.Posing.{posed_is}
use Rattle.call_times.proofs.fault.push_over.Goals as goal

pub push_terminals-requires-clause-posed : goal.push_terminals-requires-clause-posed
push_terminals-requires-clause-posed c =
    posed_is c.delays_are_parameters.ensures _ c.args.fault.now c.requires.can c.requires.on c.requires.spans refl
