use Rattle.draw_page.specs.Headings.{other_links_html}
use Rattle.draw_page.proofs.heading.other_links.Goals as goal

pub returns : goal.returns
unfolding other_links_html
returns c =
    c.joined.ensures _ _ (c.joined-faults.ensures _ _ c.link_item-times.ensures c.link_item.ensures)
    c.link_item-2.ensures
