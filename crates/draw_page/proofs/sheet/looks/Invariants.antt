use Rattle.std.proofs.Common.{◌≡◌, take}
use Rattle.std.specs.List.{flat_map}
use Rattle.draw_page.specs.Figures.{look_rule}
use Rattle.draw_page.proofs.sheet.looks.Given as goal

abbrev pub invariant-loop-class : goal.invariant-loop-class
invariant-loop-class l = l.text.items ≡ flat_map look_rule (take l.class-index l.classes)
