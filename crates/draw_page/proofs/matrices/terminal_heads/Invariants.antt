use Rattle.std.proofs.Common.{◌≡◌, IfOk, take}
use Rattle.draw_page.specs.Matrices.{terminal_heads_html}
use Rattle.draw_page.proofs.matrices.terminal_heads.Given as goal

abbrev pub invariant-loop-terminal : goal.invariant-loop-terminal
invariant-loop-terminal l =
    IfOk l.made (λ html. html.text.items
    ≡ terminal_heads_html (take l.terminal-index l.terminals))
