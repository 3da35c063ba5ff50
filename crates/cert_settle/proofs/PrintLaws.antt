-- Trees printed one after another.
use Rattle.std.proofs.Common.{◌≡◌, ◌<◌, ℕ, List, [], ◌∷◌, ◌++◌, length, map, get_or}
use Rattle.std.proofs.Common.{sym, ◌∙◌, ap, subst, arith, append_assoc}
use Rattle.std.proofs.lemmas.List.{length-map}
use Rattle.std.proofs.lemmas.List.Elements.{All-nil, All-cons, All-append, All-weaker}
use Rattle.std.proofs.Math.ListN.{get_or-map}
use Rattle.std.specs.List.{All}
use Rattle.model_line.specs.{declared.line.Line.Line}
use Rattle.model_logic.specs.Choice.{Box}
use Rattle.cert_claims.specs.text.Text.{fed}
use Rattle.model_timing.specs.{declared.step.Step.Step, Inside.IsStepInside}
use Rattle.model_settle.specs.CaseTrees.{CaseTree, Yes, Undecided, Parted, Wanted}
use Rattle.model_settle.specs.Parts.{upper_from}
use Rattle.model_logic.specs.Boxes.{lower_half}
use Rattle.judge_cases.specs.declared.node.CaseNode.{CaseNode}
use Rattle.judge_cases.specs.declared.node.CaseNode.TheVariants as node
use Rattle.cert_settle.specs.Known.{Known}
use Rattle.judge_cases.specs.Trees.{Branches}
use Rattle.judge_cases.specs.Nodes.{preorder}
use Rattle.cert_settle.specs.{declared.claim.TreeClaim.TreeClaim, Reading.result_in}
use Rattle.cert_settle.specs.Grammar.{SettleResult}
use Rattle.cert_split.specs.text.Grammar.{tree_text}
use Rattle.judge_cases.specs.Trees.{AreTree}
use Rattle.cert_settle.specs.Text.{IsNodeOfLine, IsKnownStep, result_text, trees_text}

-- the nodes of a tree that can be made in a box name parameters and terminals
known_preorder : (line : Line) (box : Box) (t : CaseTree) → Branches line box t
    → All (IsNodeOfLine line) (preorder t)
known_preorder line box Yes branches =
    All-cons (IsNodeOfLine line) node.Yes [] tt (All-nil (IsNodeOfLine line))
known_preorder line box Undecided branches =
    All-cons (IsNodeOfLine line) node.Undecided [] tt (All-nil (IsNodeOfLine line))
known_preorder line box (Parted param mid first second) branches =
    All-cons (IsNodeOfLine line) (node.Parted param mid) (preorder first ++ preorder second)
    branches.0.exists
    (All-append (IsNodeOfLine line) (preorder first) (preorder second)
    (known_preorder line (lower_half box param mid) first branches.1.0)
    (known_preorder line (upper_from box param mid) second branches.1.1))
known_preorder line box (Wanted span first second) branches =
    All-cons (IsNodeOfLine line) (node.Wanted span.terminal span.from span.to) (preorder first ++ preorder second)
    branches.0.exists
    (All-append (IsNodeOfLine line) (preorder first) (preorder second)
    (known_preorder line box first branches.1.0) (known_preorder line box second branches.1.1))

pub known_nodes : (line : Line) (nodes : List CaseNode) → AreTree line nodes
    → All (IsNodeOfLine line) nodes
known_nodes line nodes is =
    subst (λ (l : List CaseNode). All (IsNodeOfLine line) l) (sym is.are)
    (known_preorder line _ is.tree is.branches)

-- the steps of a timing name parameters
pub known_steps : Known → (line : Line) (steps : List (Step ℕ)) → All (IsStepInside line) steps
    → All (IsKnownStep line) steps
known_steps known line steps inside =
    All-weaker (IsStepInside line) (IsKnownStep line)
    (λ s is. known.delays.exists line s.param is.delay) steps inside

-- the lines of a terminal
abbrev pub tree_lines : Line → List ℕ → SettleResult → List ℕ
tree_lines line name result = fed (tree_text name) ++ result_text line result

-- the lines of the terminals are those of one, and those of the others
pub trees_both : (line : Line) (name : List ℕ) (names : List (List ℕ)) (result : SettleResult)
    (results : List SettleResult) → trees_text line (name ∷ names) (result ∷ results)
    ≡ tree_lines line name result ++ trees_text line names results
trees_both line name names result results =
    sym (append_assoc (fed (tree_text name)) (result_text line result)
    (trees_text line names results))

-- what holds of each result holds of the one at a place
pub all_mapped : (claims : List TreeClaim) (k : ℕ) (claim : TreeClaim) → k < length claims
    → claim ≡ get_or claims k claim → (P : SettleResult → Type 0)
    → All P (map (λ o. result_in o) claims) → P (result_in claim)
all_mapped claims k claim inside is P each =
    subst P (get_or-map (λ o. result_in o) claims k claim ∙ ap (λ o. result_in o) (sym is))
    (each k (result_in claim) (omega (arith, inside, length-map claims (λ o. result_in o))))
