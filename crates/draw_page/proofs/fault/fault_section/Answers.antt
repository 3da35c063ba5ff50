use Rattle.draw_page.specs.Faults.{fault_html}
use Rattle.draw_page.proofs.fault.fault_section.Goals as goal

pub returns : goal.returns
unfolding fault_html
returns c =
    c.section_at.ensures _ (c.joined-all.ensures _ _ (c.joined-swept.ensures _ _ (c.joined-ends.ensures _ _
    (c.joined-about.ensures _ _ (rw c.as_slice.ensures.value at c.words_in-name.ensures) c.about.ensures)
    (rw c.as_slice-2.ensures.value at c.ends.ensures)) c.swept.ensures) c.figure.ensures)
