-- Why there are no times of faults.
use Rattle.std.proofs.Common.{◌≡◌, ℕ, List, Ok, Err, refl, inr}
use Rattle.base_memory.specs.Gives.{Fails, OfFault}
use Rattle.base_memory.specs.declared.stopped.Stopped.{Stopped}
use Rattle.base_memory.specs.declared.stopped.Stopped.TheVariants as stopped
use Rattle.file_document.specs.declared.fault.DocumentFault.{DocumentFault}
use Rattle.file_study.specs.{study.Studies.loose_study_of, study.Studies.study_values}
use Rattle.file_study.specs.declared.study.study.Study.{Study}
use Rattle.file_borders.specs.Studies.{IsStudyRefused}
use Rattle.file_borders.specs.declared.study.StudyBordersFault.{StudyBordersFault}
use Rattle.call_study.specs.{Answers.answer_by, Ends.Gives}
use Rattle.call_work.specs.load.Loaded.{halt_by, study_halt}
use Rattle.call_work.specs.load.Reading.{times_of}
use Rattle.call_work.specs.load.Request as request
use Rattle.call_work.specs.load.Studied.{times_halt}

module _ (bytes : List ℕ) where
  -- a study file is refused
  pub study_halts : (why : Stopped DocumentFault) → Fails why (loose_study_of bytes)
      → Gives (answer_by (times_of (request.study bytes))) (Err (halt_by study_halt why))
  study_halts (stopped.Fault fault) is = rw is (refl, refl)
  study_halts stopped.Memory is = tt

  -- none of its faults has times, or one that has is wrong
  pub faults_halt : (said : Study) (why : Stopped StudyBordersFault)
      → loose_study_of bytes ≡ Ok (study_values said)
      → OfFault (IsStudyRefused said.line (study_values said).faults) why
      → Gives (answer_by (times_of (request.study bytes))) (Err (halt_by times_halt why))
  faults_halt said (stopped.Fault fault) is refused =
      rw is (inr (fault, record { line = said.line; is = refl; refused = refused }, (refl, refl)))
  faults_halt said stopped.Memory is refused = tt
