use Rattle.draw_page.specs.Headings.{answer_links_html}
use Rattle.draw_page.proofs.heading.answer_links.Goals as goal

pub returns : goal.returns
unfolding answer_links_html
returns c =
    c.joined-2.ensures _ _ (c.joined.ensures _ _ (c.joined-signed.ensures _ _
    c.link_item-verdicts.ensures c.link_item.ensures) c.link_item-failing.ensures)
    c.link_item-open.ensures
