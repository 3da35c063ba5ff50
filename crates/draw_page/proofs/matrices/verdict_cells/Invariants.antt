use Rattle.std.proofs.Common.{◌≡◌, IfOk, take}
use Rattle.std.specs.List.{flat_map}
use Rattle.draw_page.specs.Matrices.{verdict_cells_html}
use Rattle.draw_page.proofs.matrices.verdict_cells.Given as goal

abbrev pub invariant-loop-verdict : goal.invariant-loop-verdict
invariant-loop-verdict l =
    IfOk l.made (λ html. html.text.items
    ≡ flat_map (verdict_cells_html l.tick_us) (take l.verdict-index l.verdicts))
