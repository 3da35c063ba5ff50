use Rattle.std.proofs.Common.{◌≡◌, IfOk, take}
use Rattle.std.specs.List.{flat_map}
use Rattle.draw_page.specs.Filed.{digest_row_html}
use Rattle.draw_page.proofs.files.digest_rows.Given as goal

abbrev pub invariant-loop-digest : goal.invariant-loop-digest
invariant-loop-digest l =
    IfOk l.made (λ html. html.text.items
    ≡ flat_map digest_row_html (take l.digest-index l.digests))
