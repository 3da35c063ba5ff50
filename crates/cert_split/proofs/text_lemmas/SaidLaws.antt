-- What all lines say tells the results.
use Rattle.std.proofs.Common.{◌≡◌, ℕ, List, [], ◌∷◌, length, map, drop, refl, sym, ap}
use Rattle.std.specs.List.{All, flat_map}
use Rattle.model_line.specs.{declared.line.Line.Line, Parameters.terminal_count}
use Rattle.judge_split.specs.declared.node.Node.{Node}
use Rattle.cert_split.specs.text.Grammar.{SplitResult, tree, fails, HasOneEach, Said, says_nothing}
use Rattle.cert_split.specs.text.Grammar.{says_fails, says_node, result_said, part_said}
use Rattle.cert_split.specs.{text.StretchLaws.Unmarked, text.ToldLaws.parts_told}

-- a line that says nothing begins the lines of a script or a terminal
abbrev IsMark : Said → Type 0
IsMark says_nothing = Unit {0}
IsMark (says_fails numbers) = ⊥
IsMark (says_node node) = ⊥

nodes_unmarked : (nodes : List Node) → Unmarked IsMark (map says_node nodes)
nodes_unmarked [] = tt
nodes_unmarked (n ∷ nodes) = (λ mark. mark, nodes_unmarked nodes)

result_unmarked : (r : SplitResult) → Unmarked IsMark (result_said r)
result_unmarked (tree nodes) = nodes_unmarked nodes
result_unmarked (fails numbers) = (λ mark. mark, tt)

nodes_tell : (nodes others : List Node) → map says_node nodes ≡ map says_node others
    → nodes ≡ others
nodes_tell [] [] same = refl
nodes_tell [] (n ∷ others) same = cc
nodes_tell (n ∷ nodes) [] same = cc
nodes_tell (n ∷ nodes) (m ∷ others) same =
    let rest : nodes ≡ others = nodes_tell nodes others (ap (drop 1) same) in
    let whole : says_node n ∷ map says_node nodes ≡ says_node m ∷ map says_node others = same in
    cc

no_tree : (nodes : List Node) (numbers : List ℕ)
    → ¬ (map says_node nodes ≡ says_fails numbers ∷ [])
no_tree [] numbers same = cc
no_tree (n ∷ nodes) numbers same = cc

result_told : (r s : SplitResult) → result_said r ≡ result_said s → r ≡ s
result_told (tree nodes) (tree others) same = ap tree (nodes_tell nodes others same)
result_told (tree nodes) (fails numbers) same = absurd (no_tree nodes numbers same)
result_told (fails numbers) (tree nodes) same = absurd (no_tree nodes numbers (sym same))
result_told (fails numbers) (fails others) same = cc

pub said_tells : (line : Line) (parts others : List (List SplitResult))
    → length parts ≡ length others → All (HasOneEach line) parts → All (HasOneEach line) others
    → flat_map part_said parts ≡ flat_map part_said others → parts ≡ others
said_tells line parts others long a b same =
    parts_told IsMark says_nothing tt result_said result_unmarked result_told (terminal_count line)
    parts others long (λ k d there. (a k d there).many) (λ k d there. (b k d there).many) same
