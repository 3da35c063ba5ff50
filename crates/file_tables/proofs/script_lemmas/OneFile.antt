-- The scripts that a file says are of one file.
use Rattle.std.proofs.Common.{◌≡◌, ℕ, ◌+◌, ◌≤◌, List, [], ◌∷◌, Ok, subst, arith}
use Rattle.model_line.specs.declared.line.Line.{Line}
use Rattle.base_records.specs.{Fields.are_fields, Records.records_of, RecordFile.after_header}
use Rattle.base_memory.specs.CheckLaws.{choice_passed, passed, same_ok}
use Rattle.base_records.specs.{RecordFile.after_records, RecordFile.said_in}
use Rattle.base_records.specs.SoFar.{SoFar, all_of, nothing}
use Rattle.file_tables.specs.{script.Row.header_record, script.Scripts.after_record, script.Scripts.script_file}
use Rattle.file_tables.specs.{script.Scripts.scripts_in, script.Scripts.scripts_of, script.SoFar.IsSoFar}
use Rattle.file_tables.specs.script.Values.{AreOfOneFile, ScriptValues}
use Rattle.file_tables.specs.declared.script.fault.ScriptFault.{ScriptFault}
use Rattle.file_tables.proofs.script_lemmas.SoFar.{good, none_so_far, record_so_far}

module _ (line : Line) where
  -- the records from number n on
  after_good : (s : SoFar ScriptValues) (n : ℕ) (rows : List (List (List ℕ)))
      (t : SoFar ScriptValues) → IsSoFar line n s → after_records (script_file line) s n rows ≡ Ok t
      → (m : ℕ) × (n ≤ m) × IsSoFar line m t
  unfolding after_records
  after_good s n [] t so_far e =
      (n, omega arith, subst (IsSoFar line n) (same_ok {F = ScriptFault} s t e) so_far)
  after_good s n (fields ∷ rest) t so_far e =
      let p = passed (after_record line s n fields)
      (λ next. after_records (script_file line) next (n + 1) rest) t e in
      let (m, le, is) = after_good p.value (n + 1) rest t (record_so_far line s n fields p.value
      so_far p.was) p.rest in
      (m, omega (arith, le), is)

  header_good : (rows : List (List (List ℕ))) (t : SoFar ScriptValues)
      → after_header (script_file line) rows ≡ Ok t → AreOfOneFile (all_of t)
  unfolding after_records
  header_good [] t e = absurd (cc)
  header_good (fields ∷ rest) t e =
      let p = passed (after_record line nothing 2 fields)
      (λ next. after_records (script_file line) next (2 + 1) rest) t e in
      let (m, le, is) = after_good p.value (2 + 1) rest t (record_so_far line nothing 2 fields
      p.value (none_so_far line) p.was) p.rest in
      (good line m t (omega (arith, le)) is).one_file

  said_good : (rows : List (List (List ℕ))) (t : SoFar ScriptValues)
      → said_in (script_file line) rows ≡ Ok t → AreOfOneFile (all_of t)
  said_good [] t e = absurd (cc)
  said_good (fields ∷ rest) t e =
      header_good rest t
      (choice_passed (are_fields header_record fields) (after_header (script_file line) rest) _ t e)

  pub of_one_file_rows : (rows : List (List (List ℕ))) (scripts : List ScriptValues)
      → scripts_in line rows ≡ Ok scripts → AreOfOneFile scripts
  unfolding scripts_in
  of_one_file_rows rows scripts e =
      let p = passed (said_in (script_file line) rows) (λ s. Ok (all_of s)) scripts e in
      subst AreOfOneFile (same_ok {F = ScriptFault} (all_of p.value) scripts p.rest)
      (said_good rows p.value p.was)

pub of_one_file : (line : Line) (bytes : List ℕ) (scripts : List ScriptValues)
    → scripts_of line bytes ≡ Ok scripts → AreOfOneFile scripts
of_one_file line bytes scripts e = of_one_file_rows line (records_of bytes) scripts e
