use Rattle.std.proofs.Common.{◌≡◌, ◌++◌, take}
use Rattle.std.specs.List.{flat_map}
use Rattle.draw_shapes.specs.Svg.{rule_text}
use Rattle.draw_shapes.proofs.style.put_rules.Given as goal

abbrev pub invariant-loop-class : goal.invariant-loop-class
invariant-loop-class l =
    l.text.items ≡ l.initial.text.items ++ flat_map rule_text (take l.class-index l.classes)
