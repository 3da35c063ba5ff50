-- The lines of nodes and steps have no line feed.
use Rattle.std.proofs.Common.{◌≡◌, ℕ, true, refl, arith, decimal, ◌∷◌, ◌++◌, zero, suc, List}
use Rattle.std.proofs.Common.{[], get_or}
use Rattle.std.proofs.lemmas.List.Elements.{All-head, All-tail}
use Rattle.std.specs.Prelude.{codes}
use Rattle.std.specs.List.{All}
use Rattle.model_line.specs.declared.line.Line.{Line}
use Rattle.model_line.specs.NamesByNumber.{parameter_name}
use Rattle.model_timing.specs.{declared.step.Step.Step, Inside.IsStepInside}
use Rattle.base_text.specs.lines.Lines.{is_one_line}
use Rattle.base_text.specs.lines.NamedLaws.{named_whole, decimal_whole, whole_append, whole_more}
use Rattle.cert_claims.specs.text.Grammar.{terminal_names}
use Rattle.judge_cases.specs.declared.node.CaseNode.{CaseNode}
use Rattle.judge_cases.specs.declared.node.CaseNode.TheVariants as node
use Rattle.cert_settle.specs.Known.{Known}
use Rattle.cert_settle.specs.Grammar.{node_text, step_text, name_of_terminal, two_numbers}
use Rattle.cert_split.specs.text.NameLaws.{IsLineUpTo, param_stands, terminals_stand}
use Rattle.cert_settle.proofs.{StandsLaws.IsOfLine, LineLaws.step_small, LineLaws.span_small}

name_in : (names : List (List ℕ)) (k : ℕ) → All (IsLineUpTo 16) names
    → is_one_line (get_or names k []) ≡ true
name_in [] k all = refl
name_in (n ∷ names) zero all = (All-head (IsLineUpTo 16) n names all).whole
name_in (n ∷ names) (suc k) all = name_in names k (All-tail (IsLineUpTo 16) n names all)

pub node_whole : (line : Line) (n : CaseNode) → IsOfLine line n
    → is_one_line (node_text line n) ≡ true
node_whole line node.Yes may = refl
node_whole line node.Undecided may = refl
node_whole line (node.Parted param mid) may =
    let small = may.1 in
    named_whole (codes "part") (parameter_name line param) (decimal mid) refl
    (param_stands line param).whole (decimal_whole mid (omega arith))
node_whole line (node.Wanted terminal from to) may =
    let small = span_small line terminal from to may in
    let early = small.0 in
    let late = small.1 in
    named_whole (codes "on") (name_of_terminal line terminal) (two_numbers from to) refl
    (name_in (terminal_names line) terminal (terminals_stand line))
    (whole_append (decimal from) (32 ∷ decimal to) (decimal_whole from (omega arith))
    (whole_more 32 (decimal to) refl (decimal_whole to (omega arith))))

pub step_whole : Known → (line : Line) (step : Step ℕ) → IsStepInside line step
    → is_one_line (step_text line step) ≡ true
step_whole known line step inside =
    let small = step_small known line step inside in
    let early = small.1.0 in
    let low = small.1.1 in
    whole_append (codes "step ")
    (parameter_name line step.param ++ (64 ∷ (decimal step.from ++ (32 ∷ decimal step.value)))) refl
    (whole_append (parameter_name line step.param)
    (64 ∷ (decimal step.from ++ (32 ∷ decimal step.value))) (param_stands line step.param).whole
    (whole_more 64 (decimal step.from ++ (32 ∷ decimal step.value)) refl
    (whole_append (decimal step.from) (32 ∷ decimal step.value)
    (decimal_whole step.from (omega arith))
    (whole_more 32 (decimal step.value) refl (decimal_whole step.value (omega arith))))))
