-- When a text of settled trees is accepted, and its first fault where it is not.
use Rattle.std.specs.Prelude.{ℕ, List, length}
use Rattle.model_line.specs.{declared.line.Line.Line, declared.script.Script.Script}
use Rattle.cert_claims.specs.{declared.check.counts.Counts.Counts, check.Scripts.EachBelow}
use Rattle.cert_claims.specs.{check.Scripts.IsAllGood, check.Scripts.IsFirstWrong}
use Rattle.cert_claims.specs.declared.check.no.NoFault.TheVariants as no
use Rattle.cert_settle.specs.Grammar.{SettleResult, IsSettleText, LeavesGrammar}
use Rattle.cert_settle.specs.declared.fault.ResultFault.{ResultFault}
use Rattle.cert_settle.specs.declared.fault.ResultFault.TheVariants as wrong
use Rattle.cert_settle.specs.declared.fault.SettleFault.{SettleFault}
use Rattle.cert_settle.specs.declared.fault.SettleFault.TheVariants.{Line as Line', NotShown}
use Rattle.cert_settle.specs.declared.fault.SettleFault.TheVariants.{Outside, Passes}
use Rattle.cert_settle.specs.Counts.{all_verdicts}
use Rattle.cert_settle.specs.Results.{AreSupported, AreTold, IsFirstFault}

-- The bytes are settled trees of the scripts; the results of each script are supported; and these are
-- the counts of all results.
abbrev pub IsAccepted : Line → List Script → List ℕ → Counts → Type 0
IsAccepted line scripts bytes counts =
    IsAllGood (λ parts. IsSettleText line scripts parts bytes) (AreSupported line) all_verdicts
    scripts counts

-- whatever the text says of each script and terminal is so
abbrev pub IsSoundText : Line → List Script → List ℕ → Type 0
IsSoundText line scripts bytes =
    (parts : List (List SettleResult)) → IsSettleText line scripts parts bytes
    → EachBelow (AreTold line) scripts parts (length scripts)

-- The bytes are settled trees of the scripts; the results of each script before script i are
-- supported; and this is the first fault of those of script i.
abbrev pub IsScriptFault : Line → List Script → List ℕ → ℕ → ResultFault → Type 0
IsScriptFault line scripts bytes i fault =
    IsFirstWrong (λ parts. IsSettleText line scripts parts bytes) (AreSupported line)
    (IsFirstFault line) scripts i fault

-- the first fault: the first line that leaves the grammar, else that of the first script that has one
abbrev pub IsSettleFault : Line → List Script → List ℕ → SettleFault → Type 0
IsSettleFault line scripts bytes (Line' n) = LeavesGrammar line scripts bytes n
IsSettleFault line scripts bytes (NotShown i k n) =
    IsScriptFault line scripts bytes i (wrong.NotShown k n)
IsSettleFault line scripts bytes (Outside i k p value) =
    IsScriptFault line scripts bytes i (wrong.No k (no.Outside p value))
IsSettleFault line scripts bytes (Passes i k t) =
    IsScriptFault line scripts bytes i (wrong.No k (no.Passes t))

-- ---- as the code tells the fault of a script

abbrev pub fault_in : ℕ → ResultFault → SettleFault
fault_in i (wrong.NotShown k n) = NotShown i k n
fault_in i (wrong.No k (no.Outside p value)) = Outside i k p value
fault_in i (wrong.No k (no.Passes t)) = Passes i k t
