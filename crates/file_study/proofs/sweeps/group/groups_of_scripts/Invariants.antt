use Rattle.std.proofs.Common.{◌≡◌, map, take}
use Rattle.file_study.specs.sweeps.Groups.{group_values, single_group}
use Rattle.file_study.proofs.sweeps.group.groups_of_scripts.Given as goal

abbrev pub invariant-loop-script : goal.invariant-loop-script
invariant-loop-script l =
    map group_values l.groups.items ≡ map single_group (take l.script-index l.scripts)
