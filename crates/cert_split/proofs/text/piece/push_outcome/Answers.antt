use Rattle.std.proofs.Common.{List, subst, sym}
use Rattle.std.specs.List.{All}
use Rattle.judge_split.specs.declared.node.Node.{Node}
use Rattle.cert_split.specs.text.Text.{IsNodeOfLine}
use Rattle.cert_split.proofs.text_lemmas.PrintLaws.{known_nodes}
use Rattle.cert_split.proofs.text.piece.push_outcome.Goals as goal

pub push_nodes-requires : goal.push_nodes-requires
push_nodes-requires c =
    subst (λ (l : List Node). All (IsNodeOfLine c.args.line.now) l) (sym c.as_slice.ensures.value)
    (known_nodes c.args.line.now c.in-Tree.nodes.items (rw c.in-Tree.is at c.requires))
