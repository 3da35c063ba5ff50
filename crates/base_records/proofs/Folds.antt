-- Records of a file one after another.
use Rattle.std.proofs.Common.{◌≡◌, ℕ, ◌+◌, ◌<◌, List, [], ◌∷◌, length, Result, Ok, Err, refl}
use Rattle.std.proofs.Common.{sym, ap, ◌∙◌, arith}
use Rattle.base_records.specs.RecordFile.{RecordFile, after_header, after_records}
use Rattle.base_memory.specs.declared.stopped.Stopped.{Stopped}
use Rattle.base_memory.specs.{Gives.◌>>=◌, Gives.Fails, CheckLaws.fails_ends}

module _ {S F : Type 0} (file : RecordFile S F) where
  -- at least one record
  pub some_records : (rows : List (List (List ℕ))) → 0 < length rows
      → after_header file rows ≡ after_records file file.start 2 rows
  some_records [] some = absurd (omega arith)
  some_records (fields ∷ rest) some = refl

  pub no_records : (rows : List (List (List ℕ))) → length rows ≡ 0
      → after_header file rows ≡ Err file.no_record
  no_records [] none = refl
  no_records (fields ∷ rest) none = absurd (omega arith)

  module _ (s : S) (n : ℕ) (rows : List (List (List ℕ))) (fields : List (List ℕ))
      (rest : List (List (List ℕ))) (said : Result S F) where
    -- the first record, and then those behind it
    pub record_fails : (why : Stopped F) → rows ≡ fields ∷ rest
        → Fails why (file.after s n fields) → after_records file s n rows ≡ said → Fails why said
    unfolding after_records
    record_fails why is fails all =
        fails_ends why (file.after s n fields) (λ next. after_records file next (n + 1) rest) said
        fails (sym (ap (λ xs. after_records file s n xs) is) ∙ all)

    pub record_passes : (t : S) → rows ≡ fields ∷ rest → file.after s n fields ≡ Ok t
        → after_records file s n rows ≡ said → after_records file t (n + 1) rest ≡ said
    unfolding after_records
    record_passes t is ok all =
        sym (ap (λ xs. after_records file s n xs) is
        ∙ ap (λ r. r >>= λ next. after_records file next (n + 1) rest) ok) ∙ all

  pub no_more_records : (s : S) (n : ℕ) (rows : List (List (List ℕ))) → rows ≡ []
      → after_records file s n rows ≡ Ok s
  unfolding after_records
  no_more_records s n rows none = rw none refl
