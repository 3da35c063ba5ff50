-- The nodes of a cut and of its sides.
use Rattle.std.specs.Prelude.{◌++◌, Bool, true, false, List}
use Rattle.judge_ahead.specs.declared.cuts.Cut.{Cut}
use Rattle.judge_ahead.specs.declared.cuts.Cut.TheVariants as cut
use Rattle.judge_cases.specs.declared.node.CaseNode.{CaseNode}
use Rattle.judge_cases.specs.declared.node.CaseNode.TheVariants as node

-- the node of a cut
abbrev pub node_of : Cut → CaseNode
node_of (cut.Parted param mid) = node.Parted param mid
node_of (cut.Wanted span) = node.Wanted span.terminal span.from span.to

abbrev pub leaf_of : Bool → CaseNode
leaf_of true = node.Yes
leaf_of false = node.Undecided

-- the nodes of the first side, then those of the second, where the second may have come first
abbrev pub joined : Bool → List CaseNode → List CaseNode → List CaseNode
joined true one other = other ++ one
joined false one other = one ++ other
