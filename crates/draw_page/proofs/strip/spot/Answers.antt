use Rattle.draw_page.specs.Sweeps.{spot_html}
use Rattle.draw_page.proofs.strip.spot.Goals as goal

pub returns : goal.returns
unfolding spot_html
returns c =
    rw (c.spot_class.ensures, c.name_at.ensures, c.spot_sign.ensures)
    at (c.element.ensures _ c.sign-sign.ensures)
