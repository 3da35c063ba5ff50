use Rattle.std.proofs.Common.{◌≡◌, ◌++◌, take}
use Rattle.std.specs.List.{flat_map}
use Rattle.judge_settle.proofs.corner.settings.push_groups.Given as goal

abbrev pub invariant-loop-group : goal.invariant-loop-group
invariant-loop-group l =
    l.settings.items
    ≡ l.initial.settings.items ++ flat_map (λ group. group.now) (take l.group-index l.groups)
