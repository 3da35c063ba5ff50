use Rattle.draw_page.specs.Faults.{faults_html}
use Rattle.draw_page.proofs.fault.faults.Goals as goal

pub returns : goal.returns
unfolding faults_html
returns c =
    c.section.ensures _ (rw c.as_slice.ensures.value at c.fault_sections-inside.ensures)
