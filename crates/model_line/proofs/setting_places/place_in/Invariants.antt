use Rattle.std.proofs.Common.{◌≡◌, ◌+◌, length, drop}
use Rattle.std.specs.List.{flat_map, position_from}
use Rattle.model_line.specs.Settings.{same_setting, setting_place}
use Rattle.model_line.proofs.setting_places.place_in.Given as goal

abbrev pub invariant-loop-group : goal.invariant-loop-group
invariant-loop-group l =
    (position_from (same_setting l.setting) l.before
    (flat_map (λ group. group.now) (drop l.group-index l.groups))
    ≡ setting_place (flat_map (λ group. group.now) l.groups) l.setting)
    × (l.before + length (flat_map (λ group. group.now) (drop l.group-index l.groups))
    ≡ length (flat_map (λ group. group.now) l.groups))
