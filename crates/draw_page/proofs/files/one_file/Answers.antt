use Rattle.draw_page.specs.Filed.{file_html}
use Rattle.draw_page.proofs.files.one_file.Goals as goal

pub returns : goal.returns
unfolding file_html
returns c =
    c.around.ensures _ (c.joined.ensures _ _ (rw c.as_slice.ensures.value at c.words_in-name.ensures)
    (rw c.as_slice-2.ensures.value at c.words_in-text.ensures))
