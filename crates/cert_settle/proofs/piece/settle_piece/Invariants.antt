use Rattle.std.proofs.Common.{◌≡◌, ◌++◌, map, take}
use Rattle.cert_claims.specs.{text.Grammar.script_text, text.Grammar.terminal_names, text.Text.fed}
use Rattle.cert_settle.specs.{Text.trees_text, Reading.result_in}
use Rattle.cert_settle.proofs.piece.settle_piece.Given as goal

-- the script's line and the trees of the first terminals
abbrev pub invariant-loop-k : goal.invariant-loop-k
invariant-loop-k l =
    l.text.items ≡ fed (script_text l.script.name)
    ++ trees_text l.line (take l.k (terminal_names l.line)) (map result_in (take l.k l.results))
