-- What the check of settled trees answers: their counts where they are accepted, else their first
-- fault.
use Rattle.std.specs.Prelude.{◌∷◌, ◌++◌, ℕ, Bool, List, [], codes, decimal, nat_eq, if◌then◌else◌}
use Rattle.std.specs.List.{starts_with}
use Rattle.model_line.specs.{declared.line.Line.Line, declared.script.Script.Script}
use Rattle.cert_settle.specs.Check.{IsAccepted, IsSettleFault}
use Rattle.cert_settle.specs.declared.fault.SettleFault.{SettleFault}
use Rattle.cert_settle.specs.declared.fault.SettleFault.TheVariants as fault
use Rattle.call_engine.specs.Checked.{line_pieces, outside_pieces, passes_pieces, place}
use Rattle.call_engine.specs.Checked.{IsCheckedText}
use Rattle.call_answer.specs.Answers.{Answers}

-- the text begins with the head that an earlier version wrote
abbrev pub is_earlier : List ℕ → Bool
is_earlier trees = starts_with nat_eq trees (codes "study-trees 1\n")

-- `rejected Line N`; and of such a text, that it is to be made again
abbrev pub refused_pieces : List ℕ → ℕ → List (List ℕ)
refused_pieces trees n =
    if is_earlier trees then line_pieces n
    ++ codes "an earlier version wrote these trees: make them again with `study settle --trees`\n"
    ∷ []
    else line_pieces n

-- `rejected` and the fault
abbrev pub rejected_pieces : Line → List Script → List ℕ → SettleFault → List (List ℕ)
rejected_pieces line scripts trees (fault.Line n) = refused_pieces trees n
rejected_pieces line scripts trees (fault.NotShown i k n) =
    codes "rejected NotShown" ∷ place line scripts i k ∷ codes " " ∷ decimal n ∷ codes "\n" ∷ []
rejected_pieces line scripts trees (fault.Outside i k p value) =
    outside_pieces line scripts i k p value
rejected_pieces line scripts trees (fault.Passes i k t) = passes_pieces line scripts i k t

-- the trees are accepted, or have such a first fault
abbrev pub recheck_answer : Line → List Script → List ℕ → Answers
recheck_answer line scripts trees =
    IsCheckedText (IsAccepted line scripts trees) (IsSettleFault line scripts trees)
    (rejected_pieces line scripts trees)
