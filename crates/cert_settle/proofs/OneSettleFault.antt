-- The fault of a text of settled trees is one of the text, or of a script.
use Rattle.std.proofs.Common.{inl, inr, ℕ, List, refl}
use Rattle.model_line.specs.{declared.line.Line.Line, declared.script.Script.Script}
use Rattle.cert_claims.specs.declared.check.no.NoFault.TheVariants as no
use Rattle.cert_claims.specs.check.ScriptLaws.{IsOfEither}
use Rattle.cert_settle.specs.Grammar.{IsSettleText, LeavesGrammar}
use Rattle.cert_settle.specs.declared.fault.ResultFault.{ResultFault}
use Rattle.cert_settle.specs.declared.fault.ResultFault.TheVariants as wrong
use Rattle.cert_settle.specs.declared.fault.SettleFault.{SettleFault}
use Rattle.cert_settle.specs.declared.fault.SettleFault.TheVariants as settle
use Rattle.cert_settle.specs.Check.{IsScriptFault, IsSettleFault, fault_in}
use Rattle.cert_settle.specs.Results.{AreSupported, IsFirstFault}

-- the fault of a script, told with the script
pub told : (line : Line) (scripts : List Script) (bytes : List ℕ) (i : ℕ) (f : ResultFault)
    → IsScriptFault line scripts bytes i f → IsSettleFault line scripts bytes (fault_in i f)
told line scripts bytes i (wrong.NotShown k n) h = h
told line scripts bytes i (wrong.No k (no.Outside p value)) h = h
told line scripts bytes i (wrong.No k (no.Passes t)) h = h

module _ (line : Line) (scripts : List Script) (bytes : List ℕ) where
  -- the fault is one of the text, or of a script
  abbrev pub IsOne : SettleFault → Type 0
  IsOne =
      IsOfEither (λ parts. IsSettleText line scripts parts bytes) (LeavesGrammar line scripts bytes)
      (AreSupported line) (IsFirstFault line) scripts settle.Line fault_in

  in_script : (i : ℕ) (f : ResultFault) → IsScriptFault line scripts bytes i f
      → IsOne (fault_in i f)
  in_script i f h = inr (record { place = i; fault = f; first = h; same = refl })

  pub of_text_or_script : (f : SettleFault) → IsSettleFault line scripts bytes f → IsOne f
  of_text_or_script (settle.Line n) h = inl (record { number = n; leaves_there = h; same = refl })
  of_text_or_script (settle.NotShown i k n) h = in_script i (wrong.NotShown k n) h
  of_text_or_script (settle.Outside i k p value) h =
      in_script i (wrong.No k (no.Outside p value)) h
  of_text_or_script (settle.Passes i k t) h = in_script i (wrong.No k (no.Passes t)) h
