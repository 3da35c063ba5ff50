use Rattle.std.proofs.Common.{◌≡◌, IfOk, take}
use Rattle.std.specs.List.{flat_map}
use Rattle.draw_page.specs.Faults.{end_row_html}
use Rattle.draw_page.proofs.fault.end_rows.Given as goal

abbrev pub invariant-loop-verdict : goal.invariant-loop-verdict
invariant-loop-verdict l =
    IfOk l.made (λ html. html.text.items
    ≡ flat_map (end_row_html l.tick_us) (take l.verdict-index l.verdicts))
