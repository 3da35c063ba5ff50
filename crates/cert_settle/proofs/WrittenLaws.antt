-- The text of results is a text of settled trees that says them.
use Rattle.std.proofs.Common.{◌≡◌, ◌≤◌, ◌<◌, ◌-◌, ◌+◌, ℕ, true, List}
use Rattle.std.proofs.Common.{[], ◌∷◌, ◌++◌, length, map, refl, sym, ◌∙◌, ap, subst, arith}
use Rattle.std.proofs.Common.{append_assoc, inl, inr}
use Rattle.std.proofs.Math.Nat.{le-max_left, le-max_right}
use Rattle.std.proofs.lemmas.Bool.{and_parts, cases_order}
use Rattle.std.proofs.lemmas.List.{map-append}
use Rattle.std.proofs.lemmas.List.Concat.{flat_map-append}
use Rattle.std.proofs.lemmas.List.Elements.{All-head, All-tail}
use Rattle.std.specs.Prelude.{codes}
use Rattle.std.specs.List.{All, flat_map}
use Rattle.model_line.specs.{declared.line.Line.Line, declared.script.Script.Script}
use Rattle.model_line.specs.{Parameters.param_count, Fits.Fits}
use Rattle.model_history.specs.Rails.{Ends}
use Rattle.model_logic.specs.BoxLaws.{ends_with-here, ends_with-elsewhere}
use Rattle.model_logic.specs.Choice.{Box, declared_box}
use Rattle.model_timing.specs.{declared.step.Step.Step, Inside.IsStepInside}
use Rattle.model_timing.specs.Timing.{comes_before, ascend}
use Rattle.model_settle.specs.CaseTrees.{CaseTree, Yes, Undecided, Parted, Wanted}
use Rattle.model_settle.specs.Parts.{upper_from}
use Rattle.model_logic.specs.Boxes.{lower_half}
use Rattle.cert_claims.specs.text.Grammar.{script_text, end_text, terminal_names, no_words}
use Rattle.base_text.specs.lines.SpacedNumbers.{numbers_text}
use Rattle.cert_claims.specs.text.Grammar.{AreNumbers}
use Rattle.cert_claims.specs.text.Text.{fed}
use Rattle.base_text.specs.{lines.Lines.Lines, lines.Lines.is_one_line, lines.NamedLaws.whole_append}
use Rattle.judge_cases.specs.declared.node.CaseNode.{CaseNode}
use Rattle.judge_cases.specs.declared.node.CaseNode.TheVariants as node
use Rattle.judge_cases.specs.Trees.{height, branch_count, Branches}
use Rattle.judge_cases.specs.Nodes.{preorder}
use Rattle.cert_settle.specs.Grammar.{SettleResult, tree, fails, IsSettleResult, HasOneEach}
use Rattle.judge_cases.specs.Trees.{deepest, most_branches}
use Rattle.cert_settle.specs.Grammar.{Root, whole_over, expected}
use Rattle.cert_settle.specs.Grammar.{Place, fixed, result_over, roots, after_step, Stands}
use Rattle.cert_settle.specs.Grammar.{opens, Said, after_node, MayStand}
use Rattle.cert_settle.specs.Grammar.{says_nothing, says_step, says_no, says_node, node_text}
use Rattle.cert_settle.specs.Grammar.{head_text, tree_places, part_places}
use Rattle.cert_split.specs.text.Grammar.{tree_text}
use Rattle.cert_settle.specs.Grammar.{result_said, step_text}
use Rattle.cert_settle.specs.Grammar.{tree_said, part_said, IsSettleText}
use Rattle.cert_settle.specs.{Known.Known, Text.nodes_text, Text.result_text, Text.trees_text}
use Rattle.cert_settle.specs.{Text.part_text, Text.parts_text, Text.settle_text}
use Rattle.cert_settle.specs.Text.{steps_text}
use Rattle.cert_split.specs.text.NameLaws.{IsLineUpTo, name_stands, terminals_stand}
use Rattle.cert_claims.specs.{text.NameLaws.names_count, text.NumberLaws.numbers_whole}
use Rattle.cert_split.specs.text.PairLaws.{stand_one, stand_headed, pairs_stand}
use Rattle.cert_split.specs.text.LowLaws.{IsLow, low_declared, low_lower}
use Rattle.cert_settle.proofs.PrintLaws.{tree_lines, trees_both}
use Rattle.cert_settle.proofs.{WholeLaws.node_whole, WholeLaws.step_whole, StandsLaws.of_line}

-- no interval of the upper part of a box goes further than those of the box
low_from : (line : Line) (box : Box) (param mid : ℕ) → param < param_count line → IsLow line box
    → IsLow line (upper_from box param mid)
low_from line box param mid here low = λ i lt.
    let new : Ends = record { least = mid; greatest = (box.ends param).greatest } in
    let Low : Ends → Type 0 = λ e. e.greatest ≤ 4000 in
    elim (cases_order i param) [
      | inl is ↦ subst Low (sym (ends_with-here box.ends param new i is)) (low param here)
      | inr (inl less) ↦ subst Low (sym (ends_with-elsewhere box.ends param new i
          (λ is. omega (arith, less, is)))) (low i lt)
      | inr (inr more) ↦ subst Low (sym (ends_with-elsewhere box.ends param new i
          (λ is. omega (arith, more, is)))) (low i lt)
    ]

-- lines of these places, and what is left
abbrev Stood : Line → List Place → List Said → List ℕ → List Place → List ℕ → Type 0
Stood line places said text left rest = Lines (Stands line) opens places said text left rest

-- ---- a tree

-- the text of a node and of the two trees below it, in front of another
branch_lines : (line : Line) (root : CaseNode) (pre post : List CaseNode) (text : List ℕ)
    → nodes_text line (root ∷ (pre ++ post)) ++ text
    ≡ fed (node_text line root) ++ (nodes_text line pre ++ (nodes_text line post ++ text))
branch_lines line root pre post text =
    let first : List ℕ = fed (node_text line root) in
    append_assoc first (nodes_text line (pre ++ post)) text
    ∙ ap (λ (l : List ℕ). first ++ l)
    (ap (λ (l : List ℕ). l ++ text)
    (flat_map-append (λ n. fed (node_text line n)) pre post)
    ∙ append_assoc (nodes_text line pre) (nodes_text line post) text)

branch_said : (pre post : List CaseNode) (more : List Said)
    → map says_node (pre ++ post) ++ more ≡ map says_node pre ++ (map says_node post ++ more)
branch_said pre post more =
    ap (λ (l : List Said). l ++ more) (map-append (λ n. says_node n) pre post)
    ∙ append_assoc (map says_node pre) (map says_node post) more

-- a node in front of the two trees below it
branch_stands : (line : Line) (room : ℕ) (root : Root) (others : List Root) (n : CaseNode)
    (pre post : List CaseNode) (later : List Place) (more : List Said) (text : List ℕ)
    (left : List Place) (rest : List ℕ) → MayStand line room root n
    → Stood line (after_node room root others n ++ later)
    (map says_node pre ++ (map says_node post ++ more))
    (nodes_text line pre ++ (nodes_text line post ++ text)) left rest
    → Stood line (roots room root others ∷ later) (map says_node (n ∷ (pre ++ post)) ++ more)
    (nodes_text line (n ∷ (pre ++ post)) ++ text) left rest
branch_stands line room root others n pre post later more text left rest may both =
    let all = stand_one (Stands line) opens (roots room root others) later (says_node n)
    (map says_node pre ++ (map says_node post ++ more)) (node_text line n)
    (nodes_text line pre ++ (nodes_text line post ++ text)) left rest
    (node_whole line n (of_line line room root n may)) (may, refl) both in
    let P : List Said → Type 0 = λ l. Stood line (roots room root others ∷ later) (says_node n ∷ l)
    (fed (node_text line n) ++ (nodes_text line pre ++ (nodes_text line post ++ text))) left rest
    in
    let Q : List ℕ → Type 0 = λ t. Stood line (roots room root others ∷ later)
    (says_node n ∷ (map says_node (pre ++ post) ++ more)) t left rest in
    subst Q (sym (branch_lines line n pre post text))
    (subst P (sym (branch_said pre post more)) all)

-- a leaf
leaf_stands : (line : Line) (room over : ℕ) (others : List Root) (later : List Place)
    (more : List Said) (text : List ℕ) (left : List Place) (rest : List ℕ) → room ≡ over + 0
    → Stood line (expected over others ++ later) more text left rest
    → Stood line (expected room others ++ later) more text left rest
leaf_stands line room over others later more text left rest same next =
    let is : over ≡ room = omega (arith, same) in
    subst (λ (r : ℕ). Stood line (expected r others ++ later) more text left rest) is next

tree_stands : (line : Line) (room over : ℕ) (root : Root) (others : List Root) (t : CaseTree)
    (later : List Place) (more : List Said) (text : List ℕ) (left : List Place) (rest : List ℕ)
    → IsLow line root.box → Branches line root.box t → height t ≤ root.depth
    → room ≡ over + branch_count t → Stood line (expected over others ++ later) more text left rest
    → Stood line (roots room root others ∷ later) (map says_node (preorder t) ++ more)
    (nodes_text line (preorder t) ++ text) left rest
tree_stands line room over root others Yes later more text left rest low branches high count next =
    stand_one (Stands line) opens (roots room root others) later (says_node node.Yes) more (codes "yes") text left
    rest refl (tt, refl)
    (leaf_stands line room over others later more text left rest count next)
tree_stands line room over root others Undecided later more text left rest low branches high count
    next =
    stand_one (Stands line) opens (roots room root others) later (says_node node.Undecided) more
    (codes "undecided") text left rest refl (tt, refl)
    (leaf_stands line room over others later more text left rest count next)
tree_stands line room over root others (Parted param mid first second) later more text left rest low
    branches high count next =
    let pre : List CaseNode = preorder first in
    let post : List CaseNode = preorder second in
    let lower : Root = record { depth = root.depth - 1; box = lower_half root.box param mid } in
    let upper : Root = record { depth = root.depth - 1; box = upper_from root.box param mid } in
    let top = low param branches.0.exists in
    let small : mid ≤ 4000 = omega (arith, top, branches.0.below) in
    let one : height first ≤ root.depth - 1 =
    omega (arith, high, le-max_left (height first) (height second)) in
    let two : height second ≤ root.depth - 1 =
    omega (arith, high, le-max_right (height first) (height second)) in
    let then = tree_stands line (over + branch_count second) over upper others second later more text
    left rest (low_from line root.box param mid branches.0.exists low) branches.1.1 two
    (omega arith) next in
    let both = tree_stands line (room - 1) (over + branch_count second) lower (upper ∷ others) first
    later (map says_node post ++ more) (nodes_text line post ++ text) left rest
    (low_lower line root.box param mid small low) branches.1.0 one (omega (arith, count)) then in
    branch_stands line room root others (node.Parted param mid) pre post later more text left rest
    (record {
      left = record { deep = omega (arith, high); many = omega (arith, count) };
      number = omega (arith, small);
      can = branches.0;
    }) both
tree_stands line room over root others (Wanted span first second) later more text left rest
    low branches high count next =
    let pre : List CaseNode = preorder first in
    let post : List CaseNode = preorder second in
    let under : Root = record { depth = root.depth - 1; box = root.box } in
    let one : height first ≤ root.depth - 1 =
    omega (arith, high, le-max_left (height first) (height second)) in
    let two : height second ≤ root.depth - 1 =
    omega (arith, high, le-max_right (height first) (height second)) in
    let then = tree_stands line (over + branch_count second) over under others second later more text
    left rest low branches.1.1 two (omega arith) next in
    let both = tree_stands line (room - 1) (over + branch_count second) under (under ∷ others) first
    later (map says_node post ++ more) (nodes_text line post ++ text) left rest low branches.1.0 one
    (omega (arith, count)) then in
    branch_stands line room root others (node.Wanted span.terminal span.from span.to) pre post later more text left rest
    (record {
      left = record { deep = omega (arith, high); many = omega (arith, count) };
      can = branches.0;
    }) both

-- the same, where the tree is a result
root_stands : (line : Line) (over : ℕ) (box : Box) (t : CaseTree) (later : List Place)
    (more : List Said) (text : List ℕ) (left : List Place) (rest : List ℕ) → IsLow line box
    → Branches line box t → height t ≤ deepest → most_branches ≡ over + branch_count t
    → Stood line later more text left rest
    → Stood line (result_over box ∷ later) (map says_node (preorder t) ++ more)
    (nodes_text line (preorder t) ++ text) left rest
root_stands line over box Yes later more text left rest low branches high count next =
    tree_stands line most_branches over (whole_over box) [] Yes later more text left rest low branches
    high count next
root_stands line over box Undecided later more text left rest low branches high count next =
    tree_stands line most_branches over (whole_over box) [] Undecided later more text left rest low
    branches high count next
root_stands line over box (Parted param mid first second) later more text left rest low branches high
    count next =
    tree_stands line most_branches over (whole_over box) [] (Parted param mid first second) later more
    text left rest low branches high count next
root_stands line over box (Wanted span first second) later more text left rest low branches
    high count next =
    tree_stands line most_branches over (whole_over box) [] (Wanted span first second) later
    more text left rest low branches high count next

-- ---- a timing

-- the text of a step in front of others
steps_lines : (line : Line) (step : Step ℕ) (steps : List (Step ℕ)) (text : List ℕ)
    → steps_text line (step ∷ steps) ++ text
    ≡ fed (step_text line step) ++ (steps_text line steps ++ text)
steps_lines line step steps text =
    append_assoc (fed (step_text line step)) (steps_text line steps) text

module _ (known : Known) (line : Line) (numbers : List ℕ)
    (are : AreNumbers (param_count line) numbers) (later : List Place)
    (more : List Said) (text : List ℕ) (left : List Place) (rest : List ℕ)
    (next : Stood line later more text left rest) where
  no_whole : is_one_line (no_words numbers) ≡ true
  no_whole = whole_append (codes "no") (numbers_text numbers) refl (numbers_whole numbers are.small)

  later_steps : (before : Step ℕ) (steps : List (Step ℕ)) → All (IsStepInside line) steps
      → ascend (before ∷ steps) ≡ true
      → Stood line (after_step before ∷ later) (map says_step steps ++ (says_no numbers ∷ more))
      (steps_text line steps ++ (fed (no_words numbers) ++ text)) left rest
  later_steps before [] inside up =
      stand_one (Stands line) opens (after_step before) later (says_no numbers) more (no_words numbers) text left
      rest no_whole (are, refl) next
  later_steps before (s ∷ steps) inside up =
      let P : List ℕ → Type 0 = λ t. Stood line (after_step before ∷ later)
      (says_step s ∷ (map says_step steps ++ (says_no numbers ∷ more))) t left rest in
      let parts = and_parts (comes_before before s) (ascend (s ∷ steps)) up in
      let here = All-head (IsStepInside line) s steps inside in
      let all = stand_one (Stands line) opens (after_step before) later (says_step s)
      (map says_step steps ++ (says_no numbers ∷ more)) (step_text line s)
      (steps_text line steps ++ (fed (no_words numbers) ++ text)) left rest
      (step_whole known line s here) (here, (parts.0, refl))
      (later_steps s steps (All-tail (IsStepInside line) s steps inside) parts.1) in
      subst P (sym (steps_lines line s steps (fed (no_words numbers) ++ text))) all

  timing_stands : (box : Box) (steps : List (Step ℕ)) → All (IsStepInside line) steps
      → ascend steps ≡ true
      → Stood line (result_over box ∷ later) (map says_step steps ++ (says_no numbers ∷ more))
      (steps_text line steps ++ (fed (no_words numbers) ++ text)) left rest
  timing_stands box [] inside up =
      stand_one (Stands line) opens (result_over box) later (says_no numbers) more (no_words numbers) text left
      rest no_whole (are, refl) next
  timing_stands box (s ∷ steps) inside up =
      let P : List ℕ → Type 0 = λ t. Stood line (result_over box ∷ later)
      (says_step s ∷ (map says_step steps ++ (says_no numbers ∷ more))) t left rest in
      let here = All-head (IsStepInside line) s steps inside in
      let all = stand_one (Stands line) opens (result_over box) later (says_step s)
      (map says_step steps ++ (says_no numbers ∷ more)) (step_text line s)
      (steps_text line steps ++ (fed (no_words numbers) ++ text)) left rest
      (step_whole known line s here) (here, (tt, refl))
      (later_steps s steps (All-tail (IsStepInside line) s steps inside) up) in
      subst P (sym (steps_lines line s steps (fed (no_words numbers) ++ text))) all

-- ---- results

module _ (known : Known) (line : Line) where
  result_stands : (r : SettleResult) (later : List Place) (more : List Said) (text : List ℕ)
      (left : List Place) (rest : List ℕ) → IsSettleResult line r
      → Stood line later more text left rest
      → Stood line (result_over (declared_box line) ∷ later) (result_said r ++ more)
      (result_text line r ++ text) left rest
  result_stands (tree nodes) later more text left rest is next =
      let P : List CaseNode → Type 0 = λ l. Stood line (result_over (declared_box line) ∷ later)
      (map says_node l ++ more) (nodes_text line l ++ text) left rest in
      subst P (sym is.are) (root_stands line (most_branches - branch_count is.tree)
      (declared_box line) is.tree later more text left rest (low_declared known.intervals line)
      is.branches is.low (omega (arith, is.few)) next)
  result_stands (fails steps numbers) later more text left rest is next =
      let place : List Place = result_over (declared_box line) ∷ later in
      let no : List ℕ = fed (no_words numbers) in
      let P : List Said → Type 0 = λ l. Stood line place l (steps_text line steps ++ (no ++ text))
      left rest in
      let Q : List ℕ → Type 0 = λ t. Stood line place
      ((map says_step steps ++ says_no numbers ∷ []) ++ more) t left rest in
      subst Q (sym (append_assoc (steps_text line steps) no text))
      (subst P (sym (append_assoc (map says_step steps) (says_no numbers ∷ []) more))
      (timing_stands known line numbers is.are later more text left rest next
      (declared_box line) steps is.inside is.ascending))

  tree_stands_named : (name : List ℕ) (r : SettleResult) (later : List Place) (more : List Said)
      (text : List ℕ) (left : List Place) (rest : List ℕ) → IsLineUpTo 16 name
      → IsSettleResult line r → Stood line later more text left rest
      → Stood line (tree_places line name ++ later) (tree_said r ++ more)
      (tree_lines line name r ++ text) left rest
  tree_stands_named name r later more text left rest plain is next =
      stand_headed (Stands line) opens (fixed (tree_text name))
      (result_over (declared_box line) ∷ later) says_nothing (result_said r ++ more)
      (tree_text name) (result_text line r) text left rest
      (whole_append (codes "tree ") name refl plain.whole) (refl, refl)
      (result_stands r later more text left rest is next)

  -- ---- scripts

  part_stands : (script : Script) (results : List SettleResult) (later : List Place)
      (more : List Said) (text : List ℕ) (left : List Place) (rest : List ℕ) → Fits line script
      → HasOneEach line results → Stood line later more text left rest
      → Stood line (part_places line script ++ later) (part_said results ++ more)
      (part_text line script results ++ text) left rest
  part_stands script results later more text left rest fits each next =
      let names : List (List ℕ) = terminal_names line in
      stand_headed (Stands line) opens (fixed (script_text script.name))
      (flat_map (tree_places line) names ++ later) says_nothing
      (flat_map tree_said results ++ more) (script_text script.name)
      (trees_text line names results) text left rest
      (whole_append (codes "script ") script.name refl (name_stands script.name fits.plain_name).whole)
      (refl, refl)
      (pairs_stand (Stands line) opens (tree_lines line) (trees_text line) refl (trees_both line)
      (tree_places line) tree_said (IsLineUpTo 16) (IsSettleResult line) tree_stands_named names results
      later more text left rest (each.many ∙ sym (names_count line)) (terminals_stand line) each.each
      next)

  pub text_is_settle_text : (scripts : List Script) (parts : List (List SettleResult))
      → length parts ≡ length scripts → All (Fits line) scripts → All (HasOneEach line) parts
      → IsSettleText line scripts parts (settle_text line scripts parts)
  text_is_settle_text scripts parts long fits each =
      let last : Stood line (fixed end_text ∷ []) (says_nothing ∷ []) (fed end_text) [] [] =
      stand_one (Stands line) opens (fixed end_text) [] says_nothing [] end_text [] [] [] refl (refl, refl) (refl, refl) in
      record {
        many = long;
        each = each;
        lines = stand_one (Stands line) opens (fixed head_text)
            (flat_map (part_places line) scripts ++ fixed end_text ∷ []) says_nothing
            (flat_map part_said parts ++ says_nothing ∷ []) head_text
            (parts_text line scripts parts ++ fed end_text) [] [] refl (refl, refl)
            (pairs_stand (Stands line) opens (part_text line) (parts_text line) refl
            (λ x xs y ys. refl) (part_places line) part_said (Fits line) (HasOneEach line) part_stands
            scripts parts (fixed end_text ∷ []) (says_nothing ∷ []) (fed end_text) [] [] long fits
            each last);
      }
