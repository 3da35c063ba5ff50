use Rattle.std.proofs.Common.{◌≡◌, ◌++◌, take}
use Rattle.cert_split.specs.text.Text.{nodes_text}
use Rattle.cert_split.proofs.text.print.push_nodes.Given as goal

abbrev pub invariant-loop-node : goal.invariant-loop-node
invariant-loop-node l =
    l.text.items ≡ l.initial.text.items ++ nodes_text l.line (take l.node-index l.nodes)
