-- Why nothing is said of a record.
use Rattle.std.proofs.Common.{◌≡◌, ◌≤◌, ℕ, List, Option, Some, Err, length, refl, arith}
use Rattle.model_line.specs.{declared.line.Line.Line, declared.script.Script.Script}
use Rattle.base_memory.specs.Gives.{OfFault}
use Rattle.base_memory.specs.declared.stopped.Stopped.{Stopped}
use Rattle.base_memory.specs.declared.stopped.Stopped.TheVariants as stopped
use Rattle.call_work.specs.explain.Explain.{IsExplainFault}
use Rattle.call_ask.specs.declared.explain.ExplainForm.{ExplainForm}
use Rattle.call_work.specs.declared.explain.fault.ExplainFault.{ExplainFault}
use Rattle.call_work.specs.declared.explain.fault.ExplainFault.TheVariants as explain_fault
use Rattle.call_work.specs.load.Loaded.{halt_by}
use Rattle.call_study.specs.{Answers.answer_by, Ends.Gives}
use Rattle.call_work.specs.load.Reading.{explain_halt, explain_in, which_script}

module _ (within : ℕ) (form : ExplainForm) (line : Line) (scripts : List Script)
    (record_bytes : List ℕ) (script : Option (List ℕ)) (which : Option ℕ)
    (named : which_script scripts script ≡ Some which) where
  -- there is none of it, or memory ran out
  pub explain_halts : (why : Stopped ExplainFault) → length scripts ≤ 64
      → OfFault (IsExplainFault line scripts record_bytes which) why
      → Gives (answer_by (explain_in within form line scripts record_bytes script))
      (Err (halt_by explain_halt why))
  explain_halts (stopped.Fault (explain_fault.TooManyScripts there)) few is =
      let (same, many) = is in absurd (omega (arith, few, same, many))
  explain_halts (stopped.Fault (explain_fault.Record why)) few is = rw (named, is) (refl, refl)
  explain_halts (stopped.Fault (explain_fault.Unpicked why)) few is =
      rw (named, is.read, is.none) (refl, refl)
  explain_halts stopped.Memory few is = tt
