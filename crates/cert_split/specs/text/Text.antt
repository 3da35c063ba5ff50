-- The text that says something.
use Rattle.std.specs.Prelude.{◌<◌, ◌++◌, ℕ, List, [], ◌∷◌}
use Rattle.std.specs.List.{flat_map}
use Rattle.model_line.specs.{declared.line.Line.Line, declared.script.Script.Script}
use Rattle.model_line.specs.Parameters.{param_count}
use Rattle.cert_claims.specs.text.Text.{fed}
use Rattle.cert_claims.specs.text.Grammar.{no_words, script_text, end_text, terminal_names}
use Rattle.judge_split.specs.declared.node.Node.{Node}
use Rattle.judge_split.specs.declared.node.Node.TheVariants as node
use Rattle.cert_split.specs.text.Grammar.{SplitResult, tree, fails, head_text, tree_text, node_text}

-- a split names a parameter of the line
abbrev pub IsNodeOfLine : Line → Node → Type 0
IsNodeOfLine line node.Yes = Unit {0}
IsNodeOfLine line node.Undecided = Unit {0}
IsNodeOfLine line (node.Split param mid) = param < param_count line

-- a line for each node
abbrev pub nodes_text : Line → List Node → List ℕ
nodes_text line nodes = flat_map (λ node. fed (node_text line node)) nodes

-- the lines of a result
abbrev pub result_text : Line → SplitResult → List ℕ
result_text line (tree nodes) = nodes_text line nodes
result_text line (fails numbers) = fed (no_words numbers)

-- the lines of the terminals of these names
abbrev pub trees_text : Line → List (List ℕ) → List SplitResult → List ℕ
trees_text line [] results = []
trees_text line (name ∷ names) [] = []
trees_text line (name ∷ names) (result ∷ results) =
    fed (tree_text name) ++ (result_text line result ++ trees_text line names results)

-- a script's part of the text
abbrev pub part_text : Line → Script → List SplitResult → List ℕ
part_text line script results =
    fed (script_text script.name) ++ trees_text line (terminal_names line) results

-- the parts of the scripts, one after another
abbrev pub parts_text : Line → List Script → List (List SplitResult) → List ℕ
parts_text line [] parts = []
parts_text line (script ∷ scripts) [] = []
parts_text line (script ∷ scripts) (results ∷ parts) =
    part_text line script results ++ parts_text line scripts parts

-- the text of the scripts' trees
abbrev pub split_text : Line → List Script → List (List SplitResult) → List ℕ
split_text line scripts parts = fed head_text ++ (parts_text line scripts parts ++ fed end_text)
