use Rattle.std.proofs.Common.{◌++◌, take}
use Rattle.file_tables.specs.script.SoFar.{AreOnce}
use Rattle.file_study.specs.sweeps.Studies.{script_names}
use Rattle.file_study.proofs.sweeps.study.first_twice.Given as goal

abbrev pub invariant-loop-k : goal.invariant-loop-k
invariant-loop-k l = AreOnce (script_names l.done ++ take l.k (script_names l.own))
