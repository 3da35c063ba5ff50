use Rattle.std.proofs.Common.{◌≡◌, ◌++◌, map, take}
use Rattle.cert_claims.specs.text.Grammar.{terminal_names}
use Rattle.cert_claims.specs.text.Text.{lines_text}
use Rattle.cert_claims.proofs.text.print.push_lines.Given as goal

abbrev pub invariant-loop-k : goal.invariant-loop-k
invariant-loop-k g l =
    l.text.items ≡ l.initial.text.items
    ++ lines_text (map g.L.TerminalLine.place (take l.k (terminal_names l.line)))
    (map g.L.TerminalLine.says (take l.k l.said))
