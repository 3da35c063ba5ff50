use Rattle.std.proofs.Common.{drop}
use Rattle.net_compile.proofs.PartGates.{HaveParts}
use Rattle.net_compile.proofs.program_gates.part_gates.Given as goal

abbrev pub invariant-loop-part : goal.invariant-loop-part
invariant-loop-part l =
    HaveParts l.initial.net l.net l.ids.items l.parts (drop l.part-index l.parts)
