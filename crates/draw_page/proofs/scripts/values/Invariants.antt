use Rattle.std.proofs.Common.{◌≡◌, take}
use Rattle.std.specs.List.{flat_map}
use Rattle.draw_page.specs.Sweeps.{value_html}
use Rattle.draw_page.proofs.scripts.values.Given as goal

abbrev pub invariant-loop-value : goal.invariant-loop-value
invariant-loop-value l =
    l.made.text.items ≡ flat_map (value_html l.tick_us) (take l.value-index l.swept)
