-- What all lines say tells the results.
use Rattle.std.proofs.Common.{◌≡◌, ℕ, List, [], ◌∷◌, ◌++◌, length, map, drop, refl, sym, ◌∙◌, ap}
use Rattle.std.specs.List.{All, flat_map}
use Rattle.model_line.specs.{declared.line.Line.Line, Parameters.terminal_count}
use Rattle.model_timing.specs.declared.step.Step.{Step}
use Rattle.judge_cases.specs.declared.node.CaseNode.{CaseNode}
use Rattle.cert_settle.specs.Grammar.{SettleResult, tree, fails, HasOneEach, Said, says_nothing}
use Rattle.cert_settle.specs.Grammar.{says_step, says_no, says_node, result_said}
use Rattle.cert_settle.specs.Grammar.{part_said}
use Rattle.cert_split.specs.{text.StretchLaws.Unmarked, text.ToldLaws.parts_told}

-- a line that says nothing begins the lines of a script or a terminal
abbrev IsMark : Said → Type 0
IsMark says_nothing = Unit {0}
IsMark (says_step step) = ⊥
IsMark (says_no numbers) = ⊥
IsMark (says_node node) = ⊥

nodes_unmarked : (nodes : List CaseNode) → Unmarked IsMark (map says_node nodes)
nodes_unmarked [] = tt
nodes_unmarked (n ∷ nodes) = (λ mark. mark, nodes_unmarked nodes)

timing_unmarked : (steps : List (Step ℕ)) (numbers : List ℕ)
    → Unmarked IsMark (map says_step steps ++ says_no numbers ∷ [])
timing_unmarked [] numbers = (λ mark. mark, tt)
timing_unmarked (s ∷ steps) numbers = (λ mark. mark, timing_unmarked steps numbers)

result_unmarked : (r : SettleResult) → Unmarked IsMark (result_said r)
result_unmarked (tree nodes) = nodes_unmarked nodes
result_unmarked (fails steps numbers) = timing_unmarked steps numbers

nodes_tell : (nodes others : List CaseNode) → map says_node nodes ≡ map says_node others
    → nodes ≡ others
nodes_tell [] [] same = refl
nodes_tell [] (n ∷ others) same = cc
nodes_tell (n ∷ nodes) [] same = cc
nodes_tell (n ∷ nodes) (m ∷ others) same =
    let rest : nodes ≡ others = nodes_tell nodes others (ap (drop 1) same) in
    let whole : says_node n ∷ map says_node nodes ≡ says_node m ∷ map says_node others = same in
    cc

steps_tell : (steps others : List (Step ℕ)) (numbers more : List ℕ)
    → map says_step steps ++ says_no numbers ∷ [] ≡ map says_step others ++ says_no more ∷ []
    → (steps ≡ others) × (numbers ≡ more)
steps_tell [] [] numbers more same = (refl, cc)
steps_tell [] (t ∷ others) numbers more same = absurd (cc)
steps_tell (s ∷ steps) [] numbers more same = absurd (cc)
steps_tell (s ∷ steps) (t ∷ others) numbers more same =
    let rest = steps_tell steps others numbers more (ap (drop 1) same) in
    let whole : says_step s ∷ (map says_step steps ++ says_no numbers ∷ [])
    ≡ says_step t ∷ (map says_step others ++ says_no more ∷ []) = same in
    let first : s ≡ t = cc in
    (ap (λ (x : Step ℕ). x ∷ steps) first ∙ ap (λ (l : List (Step ℕ)). t ∷ l) rest.0, rest.1)

no_tree : (nodes : List CaseNode) (steps : List (Step ℕ)) (numbers : List ℕ)
    → ¬ (map says_node nodes ≡ map says_step steps ++ says_no numbers ∷ [])
no_tree [] [] numbers same = cc
no_tree [] (s ∷ steps) numbers same = cc
no_tree (n ∷ nodes) [] numbers same = cc
no_tree (n ∷ nodes) (s ∷ steps) numbers same = cc

result_told : (r s : SettleResult) → result_said r ≡ result_said s → r ≡ s
result_told (tree nodes) (tree others) same = ap tree (nodes_tell nodes others same)
result_told (tree nodes) (fails steps numbers) same = absurd (no_tree nodes steps numbers same)
result_told (fails steps numbers) (tree nodes) same =
    absurd (no_tree nodes steps numbers (sym same))
result_told (fails steps numbers) (fails others more) same =
    let parts = steps_tell steps others numbers more same in
    ap (λ (l : List (Step ℕ)). fails l numbers) parts.0
    ∙ ap (λ (l : List ℕ). fails others l) parts.1

pub said_tells : (line : Line) (parts others : List (List SettleResult))
    → length parts ≡ length others → All (HasOneEach line) parts → All (HasOneEach line) others
    → flat_map part_said parts ≡ flat_map part_said others → parts ≡ others
said_tells line parts others long a b same =
    parts_told IsMark says_nothing tt result_said result_unmarked result_told (terminal_count line)
    parts others long (λ k d there. (a k d there).many) (λ k d there. (b k d there).many) same
