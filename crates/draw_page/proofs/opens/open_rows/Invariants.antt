use Rattle.std.proofs.Common.{◌≡◌, IfOk, take}
use Rattle.std.specs.List.{flat_map}
use Rattle.draw_page.specs.Opens.{open_row_html}
use Rattle.draw_page.proofs.opens.open_rows.Given as goal

abbrev pub invariant-loop-one : goal.invariant-loop-one
invariant-loop-one l =
    IfOk l.made (λ html. html.text.items
    ≡ flat_map open_row_html (take l.one-index l.all))
