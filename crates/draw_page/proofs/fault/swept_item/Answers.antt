use Rattle.draw_page.specs.Faults.{swept_item_html}
use Rattle.draw_page.proofs.fault.swept_item.Goals as goal

pub returns : goal.returns
unfolding swept_item_html
returns c =
    c.joined.ensures _ _ (c.joined-swept.ensures _ _ c.words.ensures c.words-2.ensures) c.words-3.ensures
