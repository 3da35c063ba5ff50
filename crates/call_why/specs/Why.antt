-- Which obligation is told of, and why it fails.
use Rattle.std.specs.Prelude.{◌≡◌, ◌+◌, ◌||◌, ◌&&◌, ◌==◌, ◌⊎◌, ℕ, Bool, true, false, List, [], ◌∷◌, Option, None, Some}
use Rattle.std.specs.Prelude.{◌<◌, ⊤, codes, length, slice_get, if◌then◌else◌}
use Rattle.model_line.specs.{declared.line.Line.Line, declared.script.Script.Script}
use Rattle.model_timing.specs.{Inside.IsTimingInside, NamedValues.NamedValues, NamedValues.values_of}
use Rattle.judge_settle.specs.settle.Answers.{AreAnswers, is_failing, is_open}
use Rattle.judge_settle.specs.declared.settle.answer.{Answer.Answer, Settled.Settled}
use Rattle.judge_settle.specs.declared.settle.answer.Answer.TheVariants.{Held, Fails, Open}
use Rattle.call_why.specs.declared.{why.Found.Found, why.InScript.InScript, reasons.Reason.Reason}
use Rattle.call_why.specs.declared.why.Found.TheVariants.{Told, Quiet}
use Rattle.call_why.specs.declared.why.InScript.TheVariants as in_script
use Rattle.call_why.specs.Reasons.{IsReason}

-- the obligation at terminal k is asked about: all are, or that of one terminal
abbrev pub is_asked : Option ℕ → ℕ → Bool
is_asked None k = true
is_asked (Some terminal) k = terminal == k

-- of the answers at the terminals from number k on, the first that is asked about and fails
abbrev pub first_failing : Option ℕ → List Settled → ℕ → Option ℕ
first_failing terminal [] k = None
first_failing terminal (one ∷ more) k =
    if is_asked terminal k && is_failing one.answer then Some k
    else first_failing terminal more (k + 1)

-- some that is asked about is open
abbrev pub some_open : Option ℕ → List Settled → ℕ → Bool
some_open terminal [] k = false
some_open terminal (one ∷ more) k =
    (is_asked terminal k && is_open one.answer) || some_open terminal more (k + 1)

-- what is told where nothing fails
abbrev pub none_text : Bool → List ℕ
none_text true = codes "nothing is known to fail, and something is open\n"
none_text false = codes "nothing fails\n"

-- why the obligation with this answer fails
abbrev pub IsReasonOf : Line → Script → ℕ → Answer → NamedValues → List ℕ → Type 0
IsReasonOf line script k (Held nodes) named text = ⊥
IsReasonOf line script k (Fails timing every) named text =
    IsReason line script k timing every named text
IsReasonOf line script k (Open nodes) named text = ⊥

-- the answers to a script's obligations are so, and why the first of them fails that is asked about
-- and does: the choice that is told, and what is told
pub record IsFirst (line : Line) (script : Script) (terminal : Option ℕ) (named : NamedValues)
    (text : List ℕ) : Type 0 where
  pub settled : List Settled
  pub are : AreAnswers line script settled
  pub k : ℕ
  pub one : Settled
  pub first : first_failing terminal settled 0 ≡ Some k
  pub at : slice_get settled k ≡ Some one
  pub reason : IsReasonOf line script k one.answer named text

-- they are so, none of them fails that is asked about, and it is told whether some of these is open
pub record IsQuiet (line : Line) (script : Script) (terminal : Option ℕ) (unsettled : Bool)
    : Type 0 where
  pub settled : List Settled
  pub are : AreAnswers line script settled
  pub none : first_failing terminal settled 0 ≡ None
  pub open_is : unsettled ≡ some_open terminal settled 0

-- what holds of the reason of the first of these scripts with an obligation that fails; or, where there
-- is none, of whether some obligation is open
abbrev pub of_first : Line → Option ℕ → List Script → Bool → (Bool → Type 0)
    → (Script → NamedValues → List ℕ → Type 0) → Type 0
of_first line terminal [] unsettled WhereNone WhereOne = WhereNone unsettled
of_first line terminal (script ∷ more) unsettled WhereNone WhereOne =
    ((named : NamedValues) × ((text : List ℕ) × (IsFirst line script terminal named text
    × WhereOne script named text)))
    ⊎ ((left : Bool) × (IsQuiet line script terminal left
    × of_first line terminal more (unsettled || left) WhereNone WhereOne))

-- ---- what is found

-- of a script: the reason of the first of its obligations that fails, or whether some is open
abbrev pub IsInScript : Line → Script → Option ℕ → InScript → Type 0
IsInScript line script terminal (in_script.Fails reason) =
    IsFirst line script terminal (values_of reason.named) reason.text.items
IsInScript line script terminal (in_script.Quiet left) = IsQuiet line script terminal left

-- a reason, of the script at a place; or that there is none, and whether some is open
abbrev pub IsNone : Found → Bool → Type 0
IsNone found unsettled = found ≡ Quiet unsettled

pub record IsTold (scripts : List Script) (found : Found) (script : Script) (named : NamedValues)
    (text : List ℕ) : Type 0 where
  pub place : ℕ
  pub reason : Reason
  pub is : found ≡ Told place reason
  pub at : slice_get scripts place ≡ Some script
  pub named_is : named ≡ values_of reason.named
  pub text_is : text ≡ reason.text.items

-- it is what is found of these scripts
abbrev pub IsFound : Line → List Script → Option ℕ → Found → Type 0
IsFound line scripts terminal found =
    of_first line terminal scripts false (IsNone found) (IsTold scripts found)

-- a reason that is told is of one of the scripts, and its choice inside the declared intervals
abbrev pub IsPlayable : Line → List Script → Found → Type 0
IsPlayable line scripts (Told place reason) =
    (place < length scripts) × IsTimingInside line reason.named.timing
IsPlayable line scripts (Quiet unsettled) = ⊤
