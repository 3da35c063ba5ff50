-- The text of split trees: the lines that one of a line's scripts has, and what each can say.
use Rattle.std.specs.Prelude.{◌≡◌, ◌≤◌, ◌<◌, ◌^◌, ◌++◌, ◌-◌, ℕ, List, [], ◌∷◌, length, map, codes}
use Rattle.std.specs.Prelude.{decimal, refl}
use Rattle.std.specs.List.{All, flat_map}
use Rattle.model_line.specs.Parameters.{terminal_count, param_count}
use Rattle.model_line.specs.declared.script.Script.{Script}
use Rattle.model_line.specs.{declared.line.Line.Line, declared.line.Terminal.Terminal}
use Rattle.model_line.specs.NamesByNumber.{parameter_name}
use Rattle.model_logic.specs.Choice.{Box, declared_box}
use Rattle.base_text.specs.{lines.Named.named, lines.Grammar.Grammar, lines.Grammar.IsFixed, lines.Grammar.Parts}
use Rattle.base_text.specs.lines.Grammar.{IsText, LeavesText}
use Rattle.cert_claims.specs.text.Grammar.{AreNumbers, no_words, script_text, end_text}
use Rattle.cert_claims.specs.text.Grammar.{terminal_names}
use Rattle.judge_split.specs.declared.node.Node.{Node}
use Rattle.judge_split.specs.declared.node.Node.TheVariants as node
use Rattle.judge_split.specs.Trees.{SplitTree, preorder, height}
use Rattle.judge_split.specs.Leaves.{Splits}
use Rattle.model_logic.specs.Boxes.{CanSplit, lower_half, upper_half}

-- ---- what the text says

-- of an obligation: a tree, as its nodes in preorder, or the numbers at which it fails
pub data SplitResult : Type 0 where
  tree : List Node → SplitResult
  fails : List ℕ → SplitResult

-- at most so many splits stand above one another
abbrev pub deepest : ℕ
deepest = 8

-- these are the nodes of a tree, of which each split can be made in the declared box
pub record AreTree (line : Line) (nodes : List Node) : Type 0 where
  pub tree : SplitTree
  pub are : nodes ≡ preorder tree
  pub splits : Splits line (declared_box line) tree
  pub low : height tree ≤ deepest

-- a tree, or one number for each parameter
abbrev pub IsSplitResult : Line → SplitResult → Type 0
IsSplitResult line (tree nodes) = AreTree line nodes
IsSplitResult line (fails numbers) = AreNumbers (param_count line) numbers

-- what is said of a script: one result for each terminal, in line order
pub record HasOneEach (line : Line) (results : List SplitResult) : Type 0 where
  pub many : length results ≡ terminal_count line
  pub each : All (IsSplitResult line) results

-- ---- the lines of the text

-- where a line is expected: one with this text, the first line of a result over a box, or a node
-- over a box with at most so many splits above one another
pub data Place : Type 0 where
  fixed : List ℕ → Place
  result_over : Box → Place
  node_over : ℕ → Box → Place

-- `pilot-split 1`
abbrev pub head_text : List ℕ
head_text = codes "pilot-split 1"

-- `tree NAME`
abbrev pub tree_text : List ℕ → List ℕ
tree_text name = codes "tree " ++ name

-- a terminal's lines: its own, and those of its result
abbrev pub tree_places : Line → List ℕ → List Place
tree_places line name = fixed (tree_text name) ∷ (result_over (declared_box line) ∷ [])

-- a script's lines: its own, and those of each terminal
abbrev pub part_places : Line → Script → List Place
part_places line script =
    fixed (script_text script.name) ∷ flat_map (tree_places line) (terminal_names line)

-- ---- what can stand in a line

-- what a line says: nothing more than that it stands there, the numbers of a `no`, or a node
pub data Said : Type 0 where
  says_nothing : Said
  says_fails : List ℕ → Said
  says_node : Node → Said

-- `split PARAMETER MID`
abbrev pub split_line : List ℕ → ℕ → List ℕ
split_line name mid = named (codes "split") name (decimal mid)

-- `yes`, `undecided` or a split
abbrev pub node_text : Line → Node → List ℕ
node_text line node.Yes = codes "yes"
node_text line node.Undecided = codes "undecided"
node_text line (node.Split param mid) = split_line (parameter_name line param) mid

-- a split is one of the splits that are left, its middle is a number of 32 bits, and it can be made
pub record MaySplit (line : Line) (n : ℕ) (box : Box) (param mid : ℕ) : Type 0 where
  pub left : 0 < n
  pub number : mid < 2 ^ 32
  pub can : CanSplit line box param mid

abbrev pub MayStand : Line → ℕ → Box → Node → Type 0
MayStand line n box node.Yes = Unit {0}
MayStand line n box node.Undecided = Unit {0}
MayStand line n box (node.Split param mid) = MaySplit line n box param mid

-- it is a node over this box, with at most n splits above one another
abbrev pub IsNode : Line → ℕ → Box → Said → List ℕ → Type 0
IsNode line n box says_nothing bytes = ⊥
IsNode line n box (says_fails numbers) bytes = ⊥
IsNode line n box (says_node node) bytes =
    MayStand line n box node × (bytes ≡ node_text line node)

-- it is the first line of a result over this box
abbrev pub IsResult : Line → Box → Said → List ℕ → Type 0
IsResult line box says_nothing bytes = ⊥
IsResult line box (says_fails numbers) bytes =
    AreNumbers (param_count line) numbers × (bytes ≡ no_words numbers)
IsResult line box (says_node node) bytes =
    MayStand line deepest box node × (bytes ≡ node_text line node)

-- this text can stand at that place, where it says this
abbrev pub Stands : Line → Place → Said → List ℕ → Type 0
Stands line (fixed text) said bytes = IsFixed says_nothing text said bytes
Stands line (result_over box) said bytes = IsResult line box said bytes
Stands line (node_over n box) said bytes = IsNode line n box said bytes

-- a split opens a tree over each half of its box
abbrev pub below : ℕ → Box → Node → List Place
below n box node.Yes = []
below n box node.Undecided = []
below n box (node.Split param mid) =
    node_over (n - 1) (lower_half box param mid)
    ∷ (node_over (n - 1) (upper_half box param mid) ∷ [])

abbrev pub below_said : ℕ → Box → Said → List Place
below_said n box says_nothing = []
below_said n box (says_fails numbers) = []
below_said n box (says_node node) = below n box node

-- what is expected next because of a line
abbrev pub opens : Place → Said → List Place
opens (fixed text) said = []
opens (result_over box) said = below_said deepest box said
opens (node_over n box) said = below_said n box said

abbrev pub grammar_of : Line → Grammar
grammar_of line = record {
  Place = Place;
  Said = Said;
  stands = Stands line;
  opens = opens;
  fixed = fixed;
  nothing = says_nothing;
  there = λ text. (refl, refl);
  alone = λ text line said is. is;
  opens_none = λ text. refl;
}

-- ---- a whole text

-- what the lines of a result say
abbrev pub result_said : SplitResult → List Said
result_said (tree nodes) = map says_node nodes
result_said (fails numbers) = says_fails numbers ∷ []

-- what the lines of a terminal say, and of a script
abbrev pub tree_said : SplitResult → List Said
tree_said result = says_nothing ∷ result_said result

abbrev pub part_said : List SplitResult → List Said
part_said results = says_nothing ∷ flat_map tree_said results

-- what is said of the terminals of a script, and where; and of scripts
abbrev pub terminal_parts : Line → Parts Terminal SplitResult
terminal_parts line = record {
  grammar = grammar_of line;
  places = λ terminal. tree_places line terminal.name;
  IsWhole = IsSplitResult line;
  said = tree_said;
}

abbrev pub script_parts : Line → Parts Script (List SplitResult)
script_parts line = record {
  grammar = grammar_of line;
  places = part_places line;
  IsWhole = HasOneEach line;
  said = part_said;
}

-- the bytes are the split trees of the scripts, which say this
abbrev pub IsSplitText : Line → List Script → List (List SplitResult) → List ℕ → Type 0
IsSplitText line scripts parts bytes =
    IsText (script_parts line) head_text scripts end_text parts bytes

-- line n, counted from 1, is the first that leaves the grammar
abbrev pub LeavesGrammar : Line → List Script → List ℕ → ℕ → Type 0
LeavesGrammar line scripts bytes n =
    LeavesText (script_parts line) head_text scripts end_text bytes n
