use Rattle.std.proofs.Common.{◌≡◌, IfOk, take}
use Rattle.std.specs.List.{flat_map}
use Rattle.draw_page.specs.Choices.{told_row_html}
use Rattle.draw_page.proofs.choice.told_rows.Given as goal

abbrev pub invariant-loop-time : goal.invariant-loop-time
invariant-loop-time l =
    IfOk l.made (λ html. html.text.items
    ≡ flat_map (told_row_html l.tick_us) (take l.time-index l.told))
