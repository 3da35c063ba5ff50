use Rattle.std.proofs.Common.{◌≡◌, IfOk, take}
use Rattle.draw_page.specs.Elements.{numbered}
use Rattle.draw_page.specs.Matrices.{fault_row_html}
use Rattle.draw_page.proofs.matrices.fault_rows.Given as goal

abbrev pub invariant-loop-place : goal.invariant-loop-place
invariant-loop-place l =
    IfOk l.made (λ html. html.text.items
    ≡ numbered (fault_row_html l.tick_us) 0 (take l.place l.faults))
