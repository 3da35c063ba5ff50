use Rattle.std.proofs.Common.{List, subst, sym}
use Rattle.std.specs.List.{All}
use Rattle.judge_cases.specs.declared.node.CaseNode.{CaseNode}
use Rattle.cert_settle.specs.Text.{IsNodeOfLine}
use Rattle.cert_settle.proofs.PrintLaws.{known_nodes}
use Rattle.cert_settle.proofs.piece.push_result.Goals as goal

pub push_nodes-requires : goal.push_nodes-requires
push_nodes-requires c =
    subst (λ (l : List CaseNode). All (IsNodeOfLine c.args.line.now) l) (sym c.as_slice.ensures.value)
    (known_nodes c.args.line.now c.in-Tree.nodes.items (rw c.in-Tree.is at c.requires))
