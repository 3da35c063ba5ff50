use Rattle.draw_page.specs.Sweeps.{scripts_head_html}
use Rattle.draw_page.proofs.scripts.scripts_head.Goals as goal

pub returns : goal.returns
unfolding scripts_head_html
returns c =
    c.around-2.ensures _ (c.around.ensures _ (c.joined-cells.ensures _ _
    c.script_heads.ensures c.terminal_heads.ensures))
