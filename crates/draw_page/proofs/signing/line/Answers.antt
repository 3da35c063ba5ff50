use Rattle.draw_page.specs.Signing.{line_html}
use Rattle.draw_page.proofs.signing.line.Goals as goal

pub returns : goal.returns
unfolding line_html
returns c =
    c.around.ensures _ c.words_in.ensures
