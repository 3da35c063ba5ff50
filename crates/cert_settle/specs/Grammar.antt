-- The text of settled trees: the lines that one of a line's scripts has, and what each can say.
use Rattle.std.specs.Prelude.{◌≡◌, ◌<◌, ◌^◌, ◌++◌, ◌-◌, ℕ, List, [], ◌∷◌, length, map, codes}
use Rattle.std.specs.Prelude.{decimal, refl, get_or, Option, None, Some, IsTrue}
use Rattle.std.specs.List.{All, flat_map}
use Rattle.model_line.specs.Parameters.{terminal_count, param_count}
use Rattle.model_line.specs.declared.script.Script.{Script}
use Rattle.model_line.specs.{declared.line.Line.Line, declared.line.Terminal.Terminal}
use Rattle.model_line.specs.NamesByNumber.{parameter_name}
use Rattle.model_logic.specs.Choice.{Box, declared_box}
use Rattle.model_timing.specs.{declared.step.Step.Step, Timing.comes_before, Timing.ascend}
use Rattle.model_timing.specs.Inside.{IsStepInside}
use Rattle.model_settle.specs.{Assumed.HasSpan, Parts.CanPart, Parts.upper_from}
use Rattle.model_logic.specs.Boxes.{lower_half}
use Rattle.base_text.specs.{lines.Named.named, lines.Grammar.Grammar, lines.Grammar.IsFixed, lines.Grammar.Parts}
use Rattle.base_text.specs.lines.Grammar.{IsText, LeavesText}
use Rattle.cert_claims.specs.text.Grammar.{AreNumbers, no_words, script_text, end_text}
use Rattle.cert_claims.specs.text.Grammar.{terminal_names}
use Rattle.cert_split.specs.text.Grammar.{tree_text}
use Rattle.judge_cases.specs.declared.node.CaseNode.{CaseNode}
use Rattle.judge_cases.specs.declared.node.CaseNode.TheVariants as node
use Rattle.judge_cases.specs.Trees.{AreTree, deepest, most_branches}
use Rattle.judge_cases.specs.AssumedAt.{span_at}

-- ---- what the text says

-- of an obligation: a tree, as its nodes in preorder, or the timing at which it fails, as the steps
-- of its delays and one number for each parameter
pub data SettleResult : Type 0 where
  tree : List CaseNode → SettleResult
  fails : List (Step ℕ) → List ℕ → SettleResult

-- steps of delays that ascend, each within the run and inside its interval, and numbers
pub record AreTiming (line : Line) (steps : List (Step ℕ)) (numbers : List ℕ) : Type 0 where
  pub inside : All (IsStepInside line) steps
  pub ascending : IsTrue (ascend steps)
  pub are : AreNumbers (param_count line) numbers

abbrev pub IsSettleResult : Line → SettleResult → Type 0
IsSettleResult line (tree nodes) = AreTree line nodes
IsSettleResult line (fails steps numbers) = AreTiming line steps numbers

-- what is said of a script: one result for each terminal, in line order
pub record HasOneEach (line : Line) (results : List SettleResult) : Type 0 where
  pub many : length results ≡ terminal_count line
  pub each : All (IsSettleResult line) results

-- ---- the lines of the text

-- a tree that is expected: over this box, with at most so many parts and pairs of cases above one
-- another
pub record Root : Type 0 where
  pub depth : ℕ
  pub box : Box

-- where a line is expected: one with this text; the first line of a result over a box; the root of
-- a tree, where others are expected behind it, with at most so many parts and pairs of cases in them
-- all; or, after a step, a later one or the numbers of a `no`
pub data Place : Type 0 where
  fixed : List ℕ → Place
  result_over : Box → Place
  roots : ℕ → Root → List Root → Place
  after_step : Step ℕ → Place

-- `study-trees 2`
abbrev pub head_text : List ℕ
head_text = codes "study-trees 2"

-- a terminal's lines: its own, and those of its result
abbrev pub tree_places : Line → List ℕ → List Place
tree_places line name = fixed (tree_text name) ∷ (result_over (declared_box line) ∷ [])

-- a script's lines: its own, and those of each terminal
abbrev pub part_places : Line → Script → List Place
part_places line script =
    fixed (script_text script.name) ∷ flat_map (tree_places line) (terminal_names line)

-- ---- what can stand in a line

-- what a line says: nothing more than that it stands there, a step, the numbers of a `no`, or a
-- node
pub data Said : Type 0 where
  says_nothing : Said
  says_step : Step ℕ → Said
  says_no : List ℕ → Said
  says_node : CaseNode → Said

-- `NUMBER NUMBER`
abbrev pub two_numbers : ℕ → ℕ → List ℕ
two_numbers n m = decimal n ++ (codes " " ++ decimal m)

-- `part PARAM MID`
abbrev pub part_line : List ℕ → ℕ → List ℕ
part_line name mid = named (codes "part") name (decimal mid)

-- `on TERMINAL FROM TO`
abbrev pub span_line : List ℕ → ℕ → ℕ → List ℕ
span_line name from to = named (codes "on") name (two_numbers from to)

-- the name of terminal k
abbrev pub name_of_terminal : Line → ℕ → List ℕ
name_of_terminal line k = get_or (terminal_names line) k []

-- `yes`, `undecided`, a part or a pair of cases
abbrev pub node_text : Line → CaseNode → List ℕ
node_text line node.Yes = codes "yes"
node_text line node.Undecided = codes "undecided"
node_text line (node.Parted param mid) = part_line (parameter_name line param) mid
node_text line (node.Wanted terminal from to) =
    span_line (name_of_terminal line terminal) from to

-- `step DELAY@TICK VALUE`
abbrev pub step_line : List ℕ → ℕ → ℕ → List ℕ
step_line name from value =
    codes "step " ++ (name ++ (codes "@" ++ two_numbers from value))

abbrev pub step_text : Line → Step ℕ → List ℕ
step_text line step = step_line (parameter_name line step.param) step.from step.value

-- a part or a pair of cases is one of those that are left, both by depth and by number
pub record MayBranch (depth room : ℕ) : Type 0 where
  pub deep : 0 < depth
  pub many : 0 < room

-- the box can be parted, and the middle is a number of 32 bits
pub record MayPart (line : Line) (room : ℕ) (root : Root) (param mid : ℕ) : Type 0 where
  pub left : MayBranch root.depth room
  pub number : mid < 2 ^ 32
  pub can : CanPart line root.box param mid

-- two cases can be told apart over the span
pub record MayTell (line : Line) (room : ℕ) (root : Root) (terminal from to : ℕ) : Type 0 where
  pub left : MayBranch root.depth room
  pub can : HasSpan line (span_at terminal from to)

abbrev pub MayStand : Line → ℕ → Root → CaseNode → Type 0
MayStand line room root node.Yes = Unit {0}
MayStand line room root node.Undecided = Unit {0}
MayStand line room root (node.Parted param mid) = MayPart line room root param mid
MayStand line room root (node.Wanted terminal from to) = MayTell line room root terminal from to

-- it is the root of a tree
abbrev pub IsNode : Line → ℕ → Root → Said → List ℕ → Type 0
IsNode line room root says_nothing bytes = ⊥
IsNode line room root (says_step step) bytes = ⊥
IsNode line room root (says_no numbers) bytes = ⊥
IsNode line room root (says_node node) bytes =
    MayStand line room root node × (bytes ≡ node_text line node)

-- a step may follow the one before, if there is one
abbrev pub Follows : Option (Step ℕ) → Step ℕ → Type 0
Follows None step = Unit {0}
Follows (Some before) step = IsTrue (comes_before before step)

-- it is a line of a timing: a step, or the numbers of a `no`
abbrev pub IsOfTiming : Line → Option (Step ℕ) → Said → List ℕ → Type 0
IsOfTiming line before says_nothing bytes = ⊥
IsOfTiming line before (says_step step) bytes =
    IsStepInside line step × (Follows before step × (bytes ≡ step_text line step))
IsOfTiming line before (says_no numbers) bytes =
    AreNumbers (param_count line) numbers × (bytes ≡ no_words numbers)
IsOfTiming line before (says_node node) bytes = ⊥

-- a tree over the whole of a box
abbrev pub whole_over : Box → Root
whole_over box = record { depth = deepest; box = box }

-- it is the first line of a result over this box
abbrev pub IsResult : Line → Box → Said → List ℕ → Type 0
IsResult line box says_nothing bytes = ⊥
IsResult line box (says_step step) bytes = IsOfTiming line None (says_step step) bytes
IsResult line box (says_no numbers) bytes = IsOfTiming line None (says_no numbers) bytes
IsResult line box (says_node node) bytes =
    IsNode line most_branches (whole_over box) (says_node node) bytes

-- this text can stand at that place, where it says this
abbrev pub Stands : Line → Place → Said → List ℕ → Type 0
Stands line (fixed text) said bytes = IsFixed says_nothing text said bytes
Stands line (result_over box) said bytes = IsResult line box said bytes
Stands line (roots room root others) said bytes = IsNode line room root said bytes
Stands line (after_step step) said bytes = IsOfTiming line (Some step) said bytes

-- these trees are expected, if there are any
abbrev pub expected : ℕ → List Root → List Place
expected room [] = []
expected room (root ∷ others) = roots room root others ∷ []

-- how many parts and pairs of cases are left after a node
abbrev pub room_after : ℕ → CaseNode → ℕ
room_after room node.Yes = room
room_after room node.Undecided = room
room_after room (node.Parted param mid) = room - 1
room_after room (node.Wanted terminal from to) = room - 1

-- the two trees below a root, over these boxes
abbrev pub two_over : Root → Box → Box → List Root
two_over root first second =
    record { depth = root.depth - 1; box = first }
    ∷ (record { depth = root.depth - 1; box = second } ∷ [])

-- a part opens a tree over each of both parts of its box, which share `mid`; a pair of cases two trees
-- over the whole of it
abbrev pub below : Root → CaseNode → List Root
below root node.Yes = []
below root node.Undecided = []
below root (node.Parted param mid) =
    two_over root (lower_half root.box param mid) (upper_from root.box param mid)
below root (node.Wanted terminal from to) = two_over root root.box root.box

-- what is expected next because of a line
abbrev pub after_node : ℕ → Root → List Root → CaseNode → List Place
after_node room root others node =
    expected (room_after room node) (below root node ++ others)

abbrev pub opened_by_root : ℕ → Root → List Root → Said → List Place
opened_by_root room root others says_nothing = []
opened_by_root room root others (says_step step) = []
opened_by_root room root others (says_no numbers) = []
opened_by_root room root others (says_node node) = after_node room root others node

abbrev pub opened_by_step : Said → List Place
opened_by_step says_nothing = []
opened_by_step (says_step step) = after_step step ∷ []
opened_by_step (says_no numbers) = []
opened_by_step (says_node node) = []

abbrev pub opened_by_result : Box → Said → List Place
opened_by_result box says_nothing = []
opened_by_result box (says_step step) = after_step step ∷ []
opened_by_result box (says_no numbers) = []
opened_by_result box (says_node node) = after_node most_branches (whole_over box) [] node

abbrev pub opens : Place → Said → List Place
opens (fixed text) said = []
opens (result_over box) said = opened_by_result box said
opens (roots room root others) said = opened_by_root room root others said
opens (after_step step) said = opened_by_step said

abbrev pub grammar_of : Line → Grammar
grammar_of line = record {
  Place = Place;
  Said = Said;
  stands = Stands line;
  opens = opens;
  fixed = fixed;
  nothing = says_nothing;
  there = λ text. (refl, refl);
  alone = λ text line said is. is;
  opens_none = λ text. refl;
}

-- ---- a whole text

-- what the lines of a result say
abbrev pub result_said : SettleResult → List Said
result_said (tree nodes) = map says_node nodes
result_said (fails steps numbers) = map says_step steps ++ says_no numbers ∷ []

-- what the lines of a terminal say, and of a script
abbrev pub tree_said : SettleResult → List Said
tree_said result = says_nothing ∷ result_said result

abbrev pub part_said : List SettleResult → List Said
part_said results = says_nothing ∷ flat_map tree_said results

-- what is said of the terminals of a script, and where; and of scripts
abbrev pub terminal_parts : Line → Parts Terminal SettleResult
terminal_parts line = record {
  grammar = grammar_of line;
  places = λ terminal. tree_places line terminal.name;
  IsWhole = IsSettleResult line;
  said = tree_said;
}

abbrev pub script_parts : Line → Parts Script (List SettleResult)
script_parts line = record {
  grammar = grammar_of line;
  places = part_places line;
  IsWhole = HasOneEach line;
  said = part_said;
}

-- the bytes are the settled trees of the scripts, which say this
abbrev pub IsSettleText : Line → List Script → List (List SettleResult) → List ℕ → Type 0
IsSettleText line scripts parts bytes =
    IsText (script_parts line) head_text scripts end_text parts bytes

-- line n, counted from 1, is the first that leaves the grammar
abbrev pub LeavesGrammar : Line → List Script → List ℕ → ℕ → Type 0
LeavesGrammar line scripts bytes n =
    LeavesText (script_parts line) head_text scripts end_text bytes n
