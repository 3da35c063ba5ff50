use Rattle.draw_page.specs.Headings.{header_html}
use Rattle.draw_page.proofs.heading.header.Goals as goal

pub returns : goal.returns
unfolding header_html
returns c =
    let title = rw c.as_slice.ensures.value at c.words_in-title.ensures in
    let subject = c.joined-subject.ensures _ _ title c.subject.ensures in
    let block = c.joined-block.ensures _ _ subject c.block.ensures in
    let tiles = c.joined.ensures _ _ block c.tiles.ensures in
    let meaning = c.joined-meaning.ensures _ _ tiles c.meaning.ensures in
    let notes = c.joined-notes.ensures _ _ meaning (rw c.as_slice-2.ensures.value at c.notes.ensures) in
    c.around.ensures _ (c.joined-2.ensures _ _ notes c.contents.ensures)
