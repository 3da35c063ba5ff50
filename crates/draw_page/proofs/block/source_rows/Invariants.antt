use Rattle.std.proofs.Common.{◌≡◌, IfOk, take}
use Rattle.std.specs.List.{flat_map}
use Rattle.draw_page.specs.Blocks.{source_row_html}
use Rattle.draw_page.proofs.block.source_rows.Given as goal

abbrev pub invariant-loop-source : goal.invariant-loop-source
invariant-loop-source l =
    IfOk l.made (λ html. html.text.items ≡ flat_map source_row_html (take l.source-index l.sources))
