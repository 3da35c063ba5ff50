use Rattle.draw_page.specs.Choices.{choice_heading_html}
use Rattle.draw_page.proofs.choice.heading.Goals as goal

pub returns : goal.returns
unfolding choice_heading_html
returns c =
    let script = rw c.as_slice.ensures.value at c.link-script.ensures in
    let until = c.joined-until.ensures _ _ script (c.text_of.ensures _ c.until_words.ensures) in
    let at = c.joined-at.ensures _ _ until c.words.ensures in
    c.around.ensures _ (c.joined.ensures _ _ at (rw c.as_slice-2.ensures.value at c.words-terminal.ensures))
