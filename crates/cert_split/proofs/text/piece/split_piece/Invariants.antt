use Rattle.std.proofs.Common.{◌≡◌, ◌++◌, map, take}
use Rattle.cert_claims.specs.{text.Grammar.script_text, text.Grammar.terminal_names, text.Text.fed}
use Rattle.cert_split.specs.{text.Text.trees_text, text.Piece.written_as}
use Rattle.cert_split.proofs.text.piece.split_piece.Given as goal

-- the script's line and the trees of the first terminals
abbrev pub invariant-loop-k : goal.invariant-loop-k
invariant-loop-k l =
    l.text.items ≡ fed (script_text l.script.name)
    ++ trees_text l.line (take l.k (terminal_names l.line)) (map written_as (take l.k l.searches))
