-- By what an obligation was settled, and the words of an answer in tables.
use Rattle.std.specs.Prelude.{◌≡◌, ℕ, Bool, true, false, List, codes, if◌then◌else◌}
use Rattle.std.specs.List.{list_any}
use Rattle.model_line.specs.declared.line.Line.{Line}
use Rattle.model_settle.specs.Schemes.{IsOneRailedBy}
use Rattle.judge_cases.specs.declared.node.CaseNode.{CaseNode}
use Rattle.judge_cases.specs.declared.node.CaseNode.TheVariants as node
use Rattle.judge_settle.specs.declared.settle.answer.{Answer.Answer, By.By}
use Rattle.judge_settle.specs.declared.settle.answer.Answer.TheVariants.{Held, Fails, Open}
use Rattle.judge_settle.specs.declared.settle.answer.By.TheVariants.{Rules, Candidate, Corner, Parts, Cases}

abbrev pub by_word : By → List ℕ
by_word Rules = codes "rules"
by_word Candidate = codes "candidate"
by_word Corner = codes "corner"
by_word Parts = codes "parts"
by_word Cases = codes "cases"

-- for which choices an obligation that fails does so
abbrev pub choices_word : Bool → List ℕ
choices_word every = if every then codes "every" else codes "some"

-- the node tells two cases of an echo apart; it parts an interval
abbrev pub is_case : CaseNode → Bool
is_case node.Yes = false
is_case node.Undecided = false
is_case (node.Parted param mid) = false
is_case (node.Wanted terminal from to) = true

abbrev pub is_part : CaseNode → Bool
is_part node.Yes = false
is_part node.Undecided = false
is_part (node.Parted param mid) = true
is_part (node.Wanted terminal from to) = false

-- cases where some node is one, else parts where some node is one, else the rules: one leaf
abbrev pub by_of_nodes : List CaseNode → By
by_of_nodes nodes =
    if list_any is_case nodes then Cases else (if list_any is_part nodes then Parts else Rules)

-- a timing that fails is the worst corner of a line whose scheme makes every trip one-railed, and of
-- another one that was tried
abbrev pub IsByTiming : Line → By → Type 0
IsByTiming line Rules = ⊥
IsByTiming line Candidate = ¬ (IsOneRailedBy line.scheme line)
IsByTiming line Corner = IsOneRailedBy line.scheme line
IsByTiming line Parts = ⊥
IsByTiming line Cases = ⊥

-- by what an answer settles its obligation, or leaves it open: the form of its tree, or how its
-- timing was found
abbrev pub IsBy : Line → Answer → By → Type 0
IsBy line (Held nodes) by = by ≡ by_of_nodes nodes.items
IsBy line (Fails timing every) by = IsByTiming line by
IsBy line (Open nodes) by = by ≡ by_of_nodes nodes.items
