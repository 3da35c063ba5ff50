-- What a file of records says: a header, and then what each record makes of those before it.
use Rattle.std.specs.Prelude.{ℕ, ◌+◌, List, [], ◌∷◌, Result, Ok, Err, if◌then◌else◌}
use Rattle.base_memory.specs.Gives.{◌>>=◌}
use Rattle.base_records.specs.{Fields.are_fields, Records.records_of}

-- a kind of file: its header, what its records say, from the start on, and how it is refused
pub record RecordFile (S F : Type 0) : Type 0 where
  pub header : List (List ℕ)
  pub start : S
  pub after : S → ℕ → List (List ℕ) → Result S F
  pub no_header : F
  pub no_record : F

-- the records from number n on, in order, up to the first fault
unfoldable pub after_records : {S F : Type 0} → RecordFile S F → S → ℕ → List (List (List ℕ))
    → Result S F
after_records file s n [] = Ok s
after_records file s n (fields ∷ rest) =
    file.after s n fields >>= λ next. after_records file next (n + 1) rest

-- behind the header stands at least one record, of which the first is record 2
abbrev pub after_header : {S F : Type 0} → RecordFile S F → List (List (List ℕ)) → Result S F
after_header file [] = Err file.no_record
after_header file (fields ∷ rest) = after_records file file.start 2 (fields ∷ rest)

-- what these records say
abbrev pub said_in : {S F : Type 0} → RecordFile S F → List (List (List ℕ)) → Result S F
said_in file [] = Err file.no_header
said_in file (fields ∷ rest) =
    if are_fields file.header fields then after_header file rest else Err file.no_header

-- what these bytes say
abbrev pub said_of : {S F : Type 0} → RecordFile S F → List ℕ → Result S F
said_of file bytes = said_in file (records_of bytes)
