use Rattle.draw_page.specs.Headings.{link_item_html}
use Rattle.draw_page.proofs.heading.link_item.Goals as goal

pub returns : goal.returns
unfolding link_item_html
returns c =
    c.around.ensures _ c.link.ensures
