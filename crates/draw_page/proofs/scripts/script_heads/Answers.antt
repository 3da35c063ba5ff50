use Rattle.draw_page.specs.Sweeps.{script_heads_html}
use Rattle.draw_page.proofs.scripts.script_heads.Goals as goal

pub returns : goal.returns
unfolding script_heads_html
returns c =
    c.joined.ensures _ _ (c.joined-two.ensures _ _ c.column.ensures c.column-2.ensures) c.column-3.ensures
