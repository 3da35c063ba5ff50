-- The text that says something.
use Rattle.std.specs.Prelude.{◌<◌, ◌++◌, ℕ, List, [], ◌∷◌}
use Rattle.std.specs.List.{flat_map}
use Rattle.model_line.specs.{declared.line.Line.Line, declared.script.Script.Script}
use Rattle.model_line.specs.Parameters.{param_count, terminal_count}
use Rattle.model_timing.specs.declared.step.Step.{Step}
use Rattle.cert_claims.specs.text.Text.{fed}
use Rattle.cert_claims.specs.text.Grammar.{no_words, script_text, end_text, terminal_names}
use Rattle.judge_cases.specs.declared.node.CaseNode.{CaseNode}
use Rattle.judge_cases.specs.declared.node.CaseNode.TheVariants as node
use Rattle.cert_settle.specs.Grammar.{SettleResult, tree, fails, head_text}
use Rattle.cert_split.specs.text.Grammar.{tree_text}
use Rattle.cert_settle.specs.Grammar.{node_text, step_text}

-- a part names a parameter of the line, a pair of cases a terminal, and a step a parameter
abbrev pub IsNodeOfLine : Line → CaseNode → Type 0
IsNodeOfLine line node.Yes = Unit {0}
IsNodeOfLine line node.Undecided = Unit {0}
IsNodeOfLine line (node.Parted param mid) = param < param_count line
IsNodeOfLine line (node.Wanted terminal from to) = terminal < terminal_count line

abbrev pub IsKnownStep : Line → Step ℕ → Type 0
IsKnownStep line step = step.param < param_count line

-- a line for each node, and for each step
abbrev pub nodes_text : Line → List CaseNode → List ℕ
nodes_text line nodes = flat_map (λ node. fed (node_text line node)) nodes

abbrev pub steps_text : Line → List (Step ℕ) → List ℕ
steps_text line steps = flat_map (λ step. fed (step_text line step)) steps

-- the lines of a result
abbrev pub result_text : Line → SettleResult → List ℕ
result_text line (tree nodes) = nodes_text line nodes
result_text line (fails steps numbers) = steps_text line steps ++ fed (no_words numbers)

-- the lines of the terminals of these names
abbrev pub trees_text : Line → List (List ℕ) → List SettleResult → List ℕ
trees_text line [] results = []
trees_text line (name ∷ names) [] = []
trees_text line (name ∷ names) (result ∷ results) =
    fed (tree_text name) ++ (result_text line result ++ trees_text line names results)

-- a script's part of the text
abbrev pub part_text : Line → Script → List SettleResult → List ℕ
part_text line script results =
    fed (script_text script.name) ++ trees_text line (terminal_names line) results

-- the parts of the scripts, one after another
abbrev pub parts_text : Line → List Script → List (List SettleResult) → List ℕ
parts_text line [] parts = []
parts_text line (script ∷ scripts) [] = []
parts_text line (script ∷ scripts) (results ∷ parts) =
    part_text line script results ++ parts_text line scripts parts

-- the text of the scripts' trees
abbrev pub settle_text : Line → List Script → List (List SettleResult) → List ℕ
settle_text line scripts parts = fed head_text ++ (parts_text line scripts parts ++ fed end_text)
