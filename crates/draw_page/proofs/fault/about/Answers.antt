use Rattle.draw_page.specs.Faults.{about_html}
use Rattle.draw_page.proofs.fault.about.Goals as goal

pub returns : goal.returns
unfolding about_html
returns c =
    c.around.ensures _ (c.joined.ensures _ _
    (c.text_of-words.ensures _ c.subject_words.ensures)
    (rw c.as_slice.ensures.value at c.swept_items-swept.ensures))
