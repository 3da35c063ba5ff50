-- The lines that tell what a check of a text found.
use Rattle.std.specs.Prelude.{◌≡◌, [], ◌∷◌, ℕ, List, codes, decimal}
use Rattle.std.specs.List.{concat}
use Rattle.model_line.specs.NamesByNumber.{terminal_name, parameter_name, script_name}
use Rattle.model_line.specs.{declared.line.Line.Line, declared.script.Script.Script}
use Rattle.cert_claims.specs.declared.check.counts.Counts.{Counts}
use Rattle.call_answer.specs.Answers.{Answers}
use Rattle.call_answer.specs.declared.done.Done.TheVariants as done

-- `accepted Y N U`
abbrev pub accepted_pieces : Counts → List (List ℕ)
accepted_pieces counts =
    codes "accepted " ∷ decimal counts.yes ∷ codes " " ∷ decimal counts.no ∷ codes " "
    ∷ decimal counts.undecided ∷ codes "\n" ∷ []

-- where a fault is: ` SCRIPT TERMINAL`
abbrev pub place : Line → List Script → ℕ → ℕ → List ℕ
place line scripts i k =
    concat (codes " " ∷ script_name scripts i ∷ codes " "
    ∷ terminal_name line k ∷ [])

-- `rejected Line N`
abbrev pub line_pieces : ℕ → List (List ℕ)
line_pieces n = codes "rejected Line " ∷ decimal n ∷ codes "\n" ∷ []

-- `rejected Outside SCRIPT TERMINAL PARAMETER VALUE`
abbrev pub outside_pieces : Line → List Script → ℕ → ℕ → ℕ → ℕ → List (List ℕ)
outside_pieces line scripts i k p value =
    codes "rejected Outside" ∷ place line scripts i k ∷ codes " "
    ∷ parameter_name line p ∷ codes " " ∷ decimal value ∷ codes "\n" ∷ []

-- `rejected Passes SCRIPT TERMINAL TICK`
abbrev pub passes_pieces : Line → List Script → ℕ → ℕ → ℕ → List (List ℕ)
passes_pieces line scripts i k t =
    codes "rejected Passes" ∷ place line scripts i k ∷ codes " " ∷ decimal t ∷ codes "\n" ∷ []

-- ---- what is answered

-- the text is accepted with such counts
pub record Accepts (IsAccepted : Counts → Type 0) (text : List ℕ) : Type 0 where
  pub counts : Counts
  pub accepted : IsAccepted counts
  pub text_is : text ≡ concat (accepted_pieces counts)

-- it has such a first fault
pub record Rejects {Fault : Type 0} (IsFault : Fault → Type 0) (pieces : Fault → List (List ℕ))
    (text : List ℕ) : Type 0 where
  pub why : Fault
  pub first : IsFault why
  pub text_is : text ≡ concat (pieces why)

-- what status 0 and status 3 say of it
abbrev pub IsCheckedText : {Fault : Type 0} → (Counts → Type 0) → (Fault → Type 0)
    → (Fault → List (List ℕ)) → Answers
IsCheckedText accepted fault pieces done.Good text = Accepts accepted text
IsCheckedText accepted fault pieces done.Rejected text =
    Rejects fault pieces text
IsCheckedText accepted fault pieces s text = ⊥
