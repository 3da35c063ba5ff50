-- How many results of each kind a text of settled trees has.
use Rattle.std.specs.Prelude.{Bool, true, false, List, map}
use Rattle.std.specs.Prelude.{if◌then◌else◌}
use Rattle.std.specs.List.{flat_map, list_all}
use Rattle.cert_claims.specs.text.Grammar.{Verdict, yes, no, undecided}
use Rattle.cert_claims.specs.{declared.check.counts.Counts.Counts, check.Counts.AreCounts}
use Rattle.judge_cases.specs.declared.node.CaseNode.{CaseNode}
use Rattle.judge_cases.specs.declared.node.CaseNode.TheVariants as node
use Rattle.cert_settle.specs.Grammar.{SettleResult, tree, fails}

-- the node is no undecided leaf
abbrev pub is_decided : CaseNode → Bool
is_decided node.Yes = true
is_decided node.Undecided = false
is_decided (node.Parted param mid) = true
is_decided (node.Wanted terminal from to) = true

-- no leaf is undecided, so each is yes
abbrev pub is_yes_tree : List CaseNode → Bool
is_yes_tree nodes = list_all is_decided nodes

-- the verdict that a result comes to: yes where each leaf is yes, no at a timing, else undecided
abbrev pub verdict_of : SettleResult → Verdict
verdict_of (tree nodes) = if is_yes_tree nodes then yes else undecided
verdict_of (fails steps values) = no values

-- those of the results of all scripts
abbrev pub all_verdicts : List (List SettleResult) → List Verdict
all_verdicts parts = flat_map (map verdict_of) parts

-- these are the counts of the results of all scripts
abbrev pub CountResults : List (List SettleResult) → Counts → Type 0
CountResults parts counts = AreCounts (all_verdicts parts) counts
