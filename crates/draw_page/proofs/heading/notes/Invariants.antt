use Rattle.std.proofs.Common.{◌≡◌, IfOk, take}
use Rattle.draw_page.specs.Headings.{notes_html}
use Rattle.draw_page.proofs.heading.notes.Given as goal

abbrev pub invariant-loop-note : goal.invariant-loop-note
invariant-loop-note l =
    IfOk l.made (λ html. html.text.items
    ≡ notes_html (take l.note-index l.notes))
