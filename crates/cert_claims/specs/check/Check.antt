-- When a certificate is accepted, and its first fault where it is not.
use Rattle.std.specs.Prelude.{ℕ, List, length}
use Rattle.model_line.specs.{declared.line.Line.Line, declared.script.Script.Script}
use Rattle.cert_claims.specs.text.Grammar.{Claims, IsCertificate, LeavesGrammar}
use Rattle.cert_claims.specs.declared.check.claim.ClaimFault.{ClaimFault}
use Rattle.cert_claims.specs.declared.check.claim.ClaimFault.TheVariants as wrong
use Rattle.cert_claims.specs.declared.check.no.NoFault.TheVariants as no
use Rattle.cert_claims.specs.declared.check.fault.CheckFault.TheVariants.{Line as Line', NotCovered}
use Rattle.cert_claims.specs.declared.check.fault.CheckFault.TheVariants.{NotHeld, Outside, Passes}
use Rattle.cert_claims.specs.{declared.check.counts.Counts.Counts, declared.check.fault.CheckFault.CheckFault}
use Rattle.cert_claims.specs.{check.Counts.all_verdicts, check.Scripts.EachBelow, check.Scripts.IsAllGood}
use Rattle.cert_claims.specs.{check.Scripts.IsFirstWrong, check.Verdicts.AreAccepted, check.Verdicts.AreSoundClaims}
use Rattle.cert_claims.specs.check.Verdicts.{IsFirstFault}

-- The bytes are a certificate; what is said of each script is accepted; and these are the counts
-- of all verdicts.
abbrev pub IsAccepted : Line → List Script → List ℕ → Counts → Type 0
IsAccepted line scripts bytes counts =
    IsAllGood (λ claims. IsCertificate line scripts claims bytes) (AreAccepted line) all_verdicts
    scripts counts

-- whatever the certificate says, each history of each choice inside meets what has a `yes`
abbrev pub IsSoundText : Line → List Script → List ℕ → Type 0
IsSoundText line scripts bytes =
    (claims : List Claims) → IsCertificate line scripts claims bytes
    → EachBelow (AreSoundClaims line) scripts claims (length scripts)

-- The bytes are a certificate; what is said of each script before script i is accepted; and this is
-- the first fault of what is said of script i.
abbrev pub IsScriptFault : Line → List Script → List ℕ → ℕ → ClaimFault → Type 0
IsScriptFault line scripts bytes i fault =
    IsFirstWrong (λ claims. IsCertificate line scripts claims bytes) (AreAccepted line)
    (IsFirstFault line) scripts i fault

-- the first fault: the first line that leaves the grammar, else that of the first script that has one
abbrev pub IsCheckFault : Line → List Script → List ℕ → CheckFault → Type 0
IsCheckFault line scripts bytes (Line' n) = LeavesGrammar line scripts bytes n
IsCheckFault line scripts bytes (NotCovered i k t claimed derived) =
    IsScriptFault line scripts bytes i (wrong.NotCovered
    (record { terminal = k; tick = t; claimed = claimed; derived = derived }))
IsCheckFault line scripts bytes (NotHeld i k) =
    IsScriptFault line scripts bytes i (wrong.NotHeld k)
IsCheckFault line scripts bytes (Outside i k p value) =
    IsScriptFault line scripts bytes i (wrong.No k (no.Outside p value))
IsCheckFault line scripts bytes (Passes i k t) =
    IsScriptFault line scripts bytes i (wrong.No k (no.Passes t))

-- ---- as the code tells the fault of a script

abbrev pub fault_in : ℕ → ClaimFault → CheckFault
fault_in i (wrong.NotCovered u) = NotCovered i u.terminal u.tick u.claimed u.derived
fault_in i (wrong.NotHeld k) = NotHeld i k
fault_in i (wrong.No k (no.Outside p value)) = Outside i k p value
fault_in i (wrong.No k (no.Passes t)) = Passes i k t
