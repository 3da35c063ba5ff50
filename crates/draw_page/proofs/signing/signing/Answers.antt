use Rattle.draw_page.specs.Signing.{signing_html}
use Rattle.draw_page.specs.Elements.{words_in_html}
use Rattle.draw_page.proofs.signing.signing.Goals as goal

pub returns : goal.returns
unfolding signing_html words_in_html
returns c =
    let files = rw c.as_slice.ensures.value at c.all_signed-files.ensures in
    let standing = c.around-standing.ensures _ (c.text_of-words.ensures _ c.standing_words.ensures) in
    c.section.ensures _ (c.joined-all.ensures _ _ (c.joined.ensures _ _ files standing) c.lines.ensures)
