use Rattle.std.proofs.Common.{◌≡◌, IfOk, take}
use Rattle.std.specs.List.{flat_map}
use Rattle.draw_page.specs.Times.{time_row_html}
use Rattle.draw_page.proofs.times.time_rows.Given as goal

abbrev pub invariant-loop-time : goal.invariant-loop-time
invariant-loop-time l =
    IfOk l.made (λ html. html.text.items
    ≡ flat_map (time_row_html l.tick_us l.reach) (take l.time-index l.times))
