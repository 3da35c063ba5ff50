use Rattle.std.proofs.Common.{◌≡◌, ◌+◌, length, drop}
use Rattle.std.specs.List.{flat_map}
use Rattle.model_line.proofs.setting_places.count_of.Given as goal

abbrev pub invariant-loop-group : goal.invariant-loop-group
invariant-loop-group l =
    l.count + length (flat_map (λ group. group.now) (drop l.group-index l.groups))
    ≡ length (flat_map (λ group. group.now) l.groups)
