-- When a text of split trees is accepted, and its first fault where it is not.
use Rattle.std.specs.Prelude.{ℕ, List, length}
use Rattle.model_line.specs.{declared.line.Line.Line, declared.script.Script.Script}
use Rattle.cert_claims.specs.{declared.check.counts.Counts.Counts, check.Scripts.EachBelow}
use Rattle.cert_claims.specs.{check.Scripts.IsAllGood, check.Scripts.IsFirstWrong}
use Rattle.cert_claims.specs.declared.check.no.NoFault.TheVariants as no
use Rattle.cert_split.specs.text.Grammar.{SplitResult, IsSplitText, LeavesGrammar}
use Rattle.cert_split.specs.declared.check.fault.ResultFault.{ResultFault}
use Rattle.cert_split.specs.declared.check.fault.ResultFault.TheVariants as wrong
use Rattle.cert_split.specs.declared.check.fault.SplitFault.{SplitFault}
use Rattle.cert_split.specs.declared.check.fault.SplitFault.TheVariants.{Line as Line', NotHeld}
use Rattle.cert_split.specs.declared.check.fault.SplitFault.TheVariants.{Outside, Passes}
use Rattle.cert_split.specs.check.Counts.{all_verdicts}
use Rattle.cert_split.specs.check.Results.{AreSupported, AreTold, IsFirstFault}

-- The bytes are split trees of the scripts; the results of each script are supported; and these are
-- the counts of all results.
abbrev pub IsAccepted : Line → List Script → List ℕ → Counts → Type 0
IsAccepted line scripts bytes counts =
    IsAllGood (λ parts. IsSplitText line scripts parts bytes) (AreSupported line) all_verdicts
    scripts counts

-- whatever the text says of each script and terminal is so
abbrev pub IsSoundText : Line → List Script → List ℕ → Type 0
IsSoundText line scripts bytes =
    (parts : List (List SplitResult)) → IsSplitText line scripts parts bytes
    → EachBelow (AreTold line) scripts parts (length scripts)

-- The bytes are split trees of the scripts; the results of each script before script i are
-- supported; and this is the first fault of those of script i.
abbrev pub IsScriptFault : Line → List Script → List ℕ → ℕ → ResultFault → Type 0
IsScriptFault line scripts bytes i fault =
    IsFirstWrong (λ parts. IsSplitText line scripts parts bytes) (AreSupported line)
    (IsFirstFault line) scripts i fault

-- the first fault: the first line that leaves the grammar, else that of the first script that has one
abbrev pub IsSplitFault : Line → List Script → List ℕ → SplitFault → Type 0
IsSplitFault line scripts bytes (Line' n) = LeavesGrammar line scripts bytes n
IsSplitFault line scripts bytes (NotHeld i k n) =
    IsScriptFault line scripts bytes i (wrong.NotHeld k n)
IsSplitFault line scripts bytes (Outside i k p value) =
    IsScriptFault line scripts bytes i (wrong.No k (no.Outside p value))
IsSplitFault line scripts bytes (Passes i k t) =
    IsScriptFault line scripts bytes i (wrong.No k (no.Passes t))

-- ---- as the code tells the fault of a script

abbrev pub fault_in : ℕ → ResultFault → SplitFault
fault_in i (wrong.NotHeld k n) = NotHeld i k n
fault_in i (wrong.No k (no.Outside p value)) = Outside i k p value
fault_in i (wrong.No k (no.Passes t)) = Passes i k t
