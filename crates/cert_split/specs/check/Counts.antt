-- How many results of each kind a text of split trees has.
use Rattle.std.specs.Prelude.{Bool, List, map, if◌then◌else◌}
use Rattle.std.specs.List.{flat_map, list_all}
use Rattle.cert_claims.specs.text.Grammar.{Verdict, yes, no, undecided}
use Rattle.cert_claims.specs.{declared.check.counts.Counts.Counts, check.Counts.AreCounts}
use Rattle.judge_split.specs.{declared.node.Node.Node, Trees.is_decided}
use Rattle.cert_split.specs.text.Grammar.{SplitResult, tree, fails}

-- no leaf is undecided, so each is yes
abbrev pub is_yes_tree : List Node → Bool
is_yes_tree nodes = list_all is_decided nodes

-- the verdict that a result comes to: yes where each leaf is yes, no at numbers, else undecided
abbrev pub verdict_of : SplitResult → Verdict
verdict_of (tree nodes) = if is_yes_tree nodes then yes else undecided
verdict_of (fails values) = no values

-- those of the results of all scripts
abbrev pub all_verdicts : List (List SplitResult) → List Verdict
all_verdicts parts = flat_map (map verdict_of) parts

-- these are the counts of the results of all scripts
abbrev pub CountResults : List (List SplitResult) → Counts → Type 0
CountResults parts counts = AreCounts (all_verdicts parts) counts
