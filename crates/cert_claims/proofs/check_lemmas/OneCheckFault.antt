-- The fault of a certificate is one of its text, or of a script.
use Rattle.std.proofs.Common.{inl, inr, ℕ, List, refl}
use Rattle.model_line.specs.{declared.line.Line.Line, declared.script.Script.Script}
use Rattle.cert_claims.specs.text.Grammar.{IsCertificate, LeavesGrammar}
use Rattle.cert_claims.specs.declared.check.claim.ClaimFault.{ClaimFault}
use Rattle.cert_claims.specs.declared.check.claim.ClaimFault.TheVariants as wrong
use Rattle.cert_claims.specs.declared.check.no.NoFault.TheVariants as no
use Rattle.cert_claims.specs.declared.check.fault.CheckFault.{CheckFault}
use Rattle.cert_claims.specs.declared.check.fault.CheckFault.TheVariants as check
use Rattle.cert_claims.specs.check.Check.{IsScriptFault, IsCheckFault, fault_in}
use Rattle.cert_claims.specs.check.Verdicts.{AreAccepted, IsFirstFault}
use Rattle.cert_claims.specs.check.ScriptLaws.{IsOfEither}

-- the fault of a script, told with the script
pub told : (line : Line) (scripts : List Script) (bytes : List ℕ) (i : ℕ) (f : ClaimFault)
    → IsScriptFault line scripts bytes i f → IsCheckFault line scripts bytes (fault_in i f)
told line scripts bytes i (wrong.NotCovered u) h = h
told line scripts bytes i (wrong.NotHeld k) h = h
told line scripts bytes i (wrong.No k (no.Outside p value)) h = h
told line scripts bytes i (wrong.No k (no.Passes t)) h = h

module _ (line : Line) (scripts : List Script) (bytes : List ℕ) where
  -- the fault is one of the text, or of a script
  abbrev pub IsOne : CheckFault → Type 0
  IsOne =
      IsOfEither (λ claims. IsCertificate line scripts claims bytes) (LeavesGrammar line scripts bytes)
      (AreAccepted line) (IsFirstFault line) scripts check.Line fault_in

  in_script : (i : ℕ) (f : ClaimFault) → IsScriptFault line scripts bytes i f
      → IsOne (fault_in i f)
  in_script i f h = inr (record { place = i; fault = f; first = h; same = refl })

  pub of_text_or_script : (f : CheckFault) → IsCheckFault line scripts bytes f → IsOne f
  of_text_or_script (check.Line n) h = inl (record { number = n; leaves_there = h; same = refl })
  of_text_or_script (check.NotCovered i k t claimed derived) h =
      in_script i (wrong.NotCovered (record {
        terminal = k;
        tick = t;
        claimed = claimed;
        derived = derived;
      })) h
  of_text_or_script (check.NotHeld i k) h = in_script i (wrong.NotHeld k) h
  of_text_or_script (check.Outside i k p value) h =
      in_script i (wrong.No k (no.Outside p value)) h
  of_text_or_script (check.Passes i k t) h = in_script i (wrong.No k (no.Passes t)) h
