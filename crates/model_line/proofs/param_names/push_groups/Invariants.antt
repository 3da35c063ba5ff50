use Rattle.std.proofs.Common.{◌≡◌, ◌++◌, take}
use Rattle.std.specs.Prelude.{map}
use Rattle.std.specs.List.{flat_map}
use Rattle.model_line.specs.ParamNames.{dotted}
use Rattle.model_line.proofs.param_names.push_groups.Given as goal

abbrev pub invariant-loop-group : goal.invariant-loop-group
invariant-loop-group l =
    l.names.items
    ≡ l.initial.names.items
    ++ map (dotted l.owner) (flat_map (λ group. group.now) (take l.group-index l.groups))
