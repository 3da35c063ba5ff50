use Rattle.std.proofs.Common.{◌≡◌, ℕ, List, IfOk, subst}
use Rattle.draw_page.proofs.Rows.{row_more}
use Rattle.std.specs.Prelude.{codes}
use Rattle.base_markup.specs.declared.html.tag.Tag.TheVariants as tag
use Rattle.draw_page.specs.Elements.{said_in_html}
use Rattle.draw_page.proofs.heading.notes.Goals as goal

pub loop-note-preserved : goal.loop-note-preserved
loop-note-preserved c =
    subst (λ (t : List ℕ). IfOk c.joined-made.result (λ html. html.text.items ≡ t))
    (row_more (λ note. said_in_html tag.Paragraph (codes "note") note.items) _ _ _ c.loop-note-test.true c.note-item.is)
    (c.joined-made.ensures _ _ c.loop-note.invariant (rw c.as_slice.ensures.value at c.said_in.ensures))
