-- The fault of a text of split trees is one of the text, or of a script.
use Rattle.std.proofs.Common.{inl, inr, ℕ, List, refl}
use Rattle.model_line.specs.{declared.line.Line.Line, declared.script.Script.Script}
use Rattle.cert_claims.specs.declared.check.no.NoFault.TheVariants as no
use Rattle.cert_claims.specs.check.ScriptLaws.{IsOfEither}
use Rattle.cert_split.specs.text.Grammar.{IsSplitText, LeavesGrammar}
use Rattle.cert_split.specs.declared.check.fault.ResultFault.{ResultFault}
use Rattle.cert_split.specs.declared.check.fault.ResultFault.TheVariants as wrong
use Rattle.cert_split.specs.declared.check.fault.SplitFault.{SplitFault}
use Rattle.cert_split.specs.declared.check.fault.SplitFault.TheVariants as split
use Rattle.cert_split.specs.check.Check.{IsScriptFault, IsSplitFault, fault_in}
use Rattle.cert_split.specs.check.Results.{AreSupported, IsFirstFault}

-- the fault of a script, told with the script
pub told : (line : Line) (scripts : List Script) (bytes : List ℕ) (i : ℕ) (f : ResultFault)
    → IsScriptFault line scripts bytes i f → IsSplitFault line scripts bytes (fault_in i f)
told line scripts bytes i (wrong.NotHeld k n) h = h
told line scripts bytes i (wrong.No k (no.Outside p value)) h = h
told line scripts bytes i (wrong.No k (no.Passes t)) h = h

module _ (line : Line) (scripts : List Script) (bytes : List ℕ) where
  -- the fault is one of the text, or of a script
  abbrev pub IsOne : SplitFault → Type 0
  IsOne =
      IsOfEither (λ parts. IsSplitText line scripts parts bytes) (LeavesGrammar line scripts bytes)
      (AreSupported line) (IsFirstFault line) scripts split.Line fault_in

  in_script : (i : ℕ) (f : ResultFault) → IsScriptFault line scripts bytes i f
      → IsOne (fault_in i f)
  in_script i f h = inr (record { place = i; fault = f; first = h; same = refl })

  pub of_text_or_script : (f : SplitFault) → IsSplitFault line scripts bytes f → IsOne f
  of_text_or_script (split.Line n) h = inl (record { number = n; leaves_there = h; same = refl })
  of_text_or_script (split.NotHeld i k n) h = in_script i (wrong.NotHeld k n) h
  of_text_or_script (split.Outside i k p value) h =
      in_script i (wrong.No k (no.Outside p value)) h
  of_text_or_script (split.Passes i k t) h = in_script i (wrong.No k (no.Passes t)) h
