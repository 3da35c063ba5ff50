use Rattle.std.proofs.Common.{◌≡◌, IfOk, take}
use Rattle.std.specs.List.{flat_map}
use Rattle.draw_page.specs.Matrices.{three_heads_html}
use Rattle.draw_page.proofs.matrices.three_heads.Given as goal

abbrev pub invariant-loop-terminal : goal.invariant-loop-terminal
invariant-loop-terminal l =
    IfOk l.made (λ html. html.text.items
    ≡ flat_map (λ terminal. three_heads_html) (take l._terminal-index l.terminals))
