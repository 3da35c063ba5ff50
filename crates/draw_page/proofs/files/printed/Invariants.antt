use Rattle.std.proofs.Common.{◌≡◌, IfOk, take}
use Rattle.std.specs.List.{flat_map}
use Rattle.draw_page.specs.Filed.{file_html}
use Rattle.draw_page.proofs.files.printed.Given as goal

abbrev pub invariant-loop-file : goal.invariant-loop-file
invariant-loop-file l =
    IfOk l.made (λ html. html.text.items
    ≡ flat_map file_html (take l.file-index l.files))
