use Rattle.std.proofs.Common.{map, take}
use Rattle.file_study.specs.study.Faults.{fault_values}
use Rattle.file_study.specs.sweeps.Studies.{AreScriptsOf}
use Rattle.file_study.proofs.sweeps.study.scripts_of_study.Given as goal

abbrev pub invariant-loop-i : goal.invariant-loop-i
invariant-loop-i l =
    AreScriptsOf l.study.line (take l.i (map fault_values l.study.faults.items))
    l.all.scripts.items l.all.groups.items
