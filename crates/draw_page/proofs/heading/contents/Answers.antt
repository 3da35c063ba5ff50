use Rattle.draw_page.specs.Headings.{contents_html}
use Rattle.draw_page.proofs.heading.contents.Goals as goal

pub returns : goal.returns
unfolding contents_html
returns c =
    c.element.ensures _ (c.around.ensures _
    (c.joined-items.ensures _ _ c.answer_links.ensures c.other_links.ensures))
