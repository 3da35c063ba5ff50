use Rattle.std.proofs.Common.{◌≡◌, IfOk, take}
use Rattle.std.specs.List.{flat_map}
use Rattle.draw_page.specs.Signing.{signed_html}
use Rattle.draw_page.proofs.signing.all_signed.Given as goal

abbrev pub invariant-loop-file : goal.invariant-loop-file
invariant-loop-file l =
    IfOk l.made (λ html. html.text.items ≡ flat_map signed_html (take l.file-index l.files))
