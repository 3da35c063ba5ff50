use Rattle.std.proofs.Common.{map, take}
use Rattle.std.specs.List.{All}
use Rattle.file_study.specs.study.Faults.{fault_values}
use Rattle.file_borders.specs.Studies.{AreLooseOf, IsAnswerable, IsWell, with_intervals}
use Rattle.file_borders.proofs.study.all_loose.Given as goal

abbrev pub invariant-loop-i : goal.invariant-loop-i
invariant-loop-i l = record {
  are : AreLooseOf (with_intervals (map fault_values (take l.i l.faults))) l.all.items;
  can : All (IsAnswerable l.line) l.all.items;
  well : All (IsWell l.line) (map fault_values (take l.i l.faults));
}
