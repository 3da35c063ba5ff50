-- A text of split trees has few lines.
use Rattle.std.proofs.Common.{◌≡◌, ◌≤◌, ◌+◌, ◌-◌, ◌*◌, ℕ, zero, suc, List, [], ◌∷◌, ◌++◌, length}
use Rattle.std.proofs.Common.{arith, refl, ap}
use Rattle.std.specs.List.{flat_map}
use Rattle.model_line.specs.{declared.line.Line.Line, declared.script.Script.Script}
use Rattle.model_logic.specs.Choice.{Box}
use Rattle.cert_claims.specs.text.Grammar.{terminal_names, end_text}
use Rattle.judge_split.specs.declared.node.Node.{Node}
use Rattle.judge_split.specs.declared.node.Node.TheVariants as node
use Rattle.base_text.specs.lines.Lines.{Lines}
use Rattle.cert_split.specs.text.Grammar.{Place, fixed, result_over, node_over, Stands, opens}
use Rattle.cert_split.specs.text.Grammar.{below}
use Rattle.cert_split.specs.text.Grammar.{Said, says_nothing, says_fails, says_node, LeavesGrammar}
use Rattle.cert_split.specs.text.Grammar.{MayStand, deepest, tree_places, part_places}
use Rattle.cert_claims.specs.text.NameLaws.{names_count}

-- the nodes of a tree with so many splits above one another, at most
abbrev pub full : ℕ → ℕ
full zero = 1
full (suc n) = full n + full n + 1

-- the lines at a place and at those that it opens, at most
abbrev most_at : Place → ℕ
most_at (fixed text) = 1
most_at (result_over box) = full deepest
most_at (node_over n box) = full n

abbrev most : List Place → ℕ
most [] = 0
most (p ∷ places) = most_at p + most places

most_append : (a b : List Place) → most (a ++ b) ≡ most a + most b
most_append [] b = omega arith
most_append (p ∷ a) b = omega (arith, most_append a b)

pub some_node : (n : ℕ) → 1 ≤ full n
some_node zero = omega arith
some_node (suc n) = omega arith

below_few : (line : Line) (n : ℕ) (box : Box) (root : Node) (places : List Place)
    → MayStand line n box root → most (below n box root ++ places) + 1 ≤ full n + most places
below_few line n box node.Yes places may = omega (arith, some_node n)
below_few line n box node.Undecided places may = omega (arith, some_node n)
below_few line zero box (node.Split param mid) places may =
    absurd (let left = may.left in omega arith)
below_few line (suc n) box (node.Split param mid) places may =
    let less : suc n - 1 ≡ n = omega arith in
    omega (arith, ap full less)

opened_few : (line : Line) (place : Place) (m : Said) (bytes : List ℕ) (places : List Place)
    → Stands line place m bytes → most (opens place m ++ places) + 1 ≤ most_at place + most places
opened_few line (fixed text) m bytes places is = omega arith
opened_few line (result_over box) says_nothing bytes places is = absurd is
opened_few line (result_over box) (says_fails ns) bytes places is =
    omega (arith, some_node deepest)
opened_few line (result_over box) (says_node r) bytes places is =
    below_few line deepest box r places is.0
opened_few line (node_over n box) says_nothing bytes places is = absurd is
opened_few line (node_over n box) (says_fails ns) bytes places is = absurd is
opened_few line (node_over n box) (says_node r) bytes places is =
    below_few line n box r places is.0

-- no more is said than the places have lines
said_few : (line : Line) (places : List Place) (said : List Said) (text : List ℕ)
    (left : List Place) (rest : List ℕ) → Lines (Stands line) opens places said text left rest
    → length said ≤ most places
said_few line places [] text left rest g = omega arith
said_few line [] (m ∷ said) text left rest g = absurd g
said_few line (place ∷ places) (m ∷ said) text left rest g =
    let more : length said ≤ most (opens place m ++ places) =
    said_few line (opens place m ++ places) said g.1.0 left rest g.1.1.1.1 in
    omega (arith, more, opened_few line place m g.0 places g.1.1.1.0)

trees_few : (line : Line) (names : List (List ℕ))
    → most (flat_map (tree_places line) names) ≡ 512 * length names
trees_few line [] = omega arith
trees_few line (name ∷ names) =
    let nodes : full deepest ≡ 511 = refl in
    omega (arith, nodes, trees_few line names)

parts_few : (line : Line) (scripts : List Script)
    → most (flat_map (part_places line) scripts) ≤ 1537 * length scripts
parts_few line [] = omega arith
parts_few line (script ∷ scripts) =
    let three = line.two_or_three.1 in
    omega (
      arith,
      three,
      names_count line,
      trees_few line (terminal_names line),
      parts_few line scripts,
      most_append (part_places line script) (flat_map (part_places line) scripts),
    )

pub leaves_early : (line : Line) (scripts : List Script) (bytes : List ℕ) (n : ℕ)
    → LeavesGrammar line scripts bytes n → n ≤ 1537 * length scripts + 3
leaves_early line scripts bytes n is =
    let parts : List Place = flat_map (part_places line) scripts in
    omega (
      arith,
      is.number,
      parts_few line scripts,
      most_append parts (fixed end_text ∷ []),
      said_few line _ is.said bytes is.left is.rest is.before,
    )
