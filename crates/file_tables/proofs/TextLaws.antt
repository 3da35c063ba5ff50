-- The text of records is read back as these records.
use Rattle.std.proofs.Common.{◌≡◌, ◌+◌, ◌≤◌, ℕ, zero, suc, List, [], ◌∷◌, ◌++◌, ap}
use Rattle.std.proofs.Common.{refl, map, length, arith, cond, length-append}
use Rattle.csv.specs.Reading.{default_config, records_from, strip_bom}
use Rattle.csv.specs.Writing.{default_writer, is_blank, read_back, row_text}
use Rattle.csv.specs.Writing.{row_body}
use Rattle.csv.specs.Machine.{next_record}
use Rattle.csv.specs.declared.parser.State.TheVariants as st
use Rattle.csv.proofs.RoundTrip.{read-write}
use Rattle.base_records.specs.Records.{records_of}
use Rattle.file_tables.specs.script.Printed.{records_text}

-- the default reader reads back records that the default writer wrote
rows_read : (rows : List (List (List ℕ))) (n : ℕ) → length rows ≤ n
    → records_from default_config n st.StartRecord (records_text rows) ≡ map read_back rows
unfolding records_from next_record
rows_read [] zero few = refl
rows_read [] (suc n) few = refl
rows_read (row ∷ rows) zero few = absurd (omega arith)
rows_read (row ∷ rows) (suc n) few =
    rw (read-write row (records_text rows))
    (ap (λ (t : List (List (List ℕ))). read_back row ∷ t) (rows_read rows n (omega arith)))

-- each record takes a byte at least
row_has_bytes : (row : List (List ℕ)) → 1 ≤ length (row_text default_writer row)
row_has_bytes row =
    let body : List ℕ = row_body default_writer row in
    let mark : List ℕ = cond (is_blank default_writer row) (34 ∷ 34 ∷ []) [] in
    let end : List ℕ = 10 ∷ [] in
    let whole : length (row_text default_writer row) ≡ length body + length (mark ++ end) =
    length-append body (mark ++ end) in
    let tail : length (mark ++ end) ≡ length mark + 1 = length-append mark end in
    omega arith

enough : (rows : List (List (List ℕ))) → length rows ≤ length (records_text rows)
enough [] = omega arith
enough (row ∷ rows) =
    let here = row_has_bytes row in
    let rest = enough rows in
    let sum = length-append (row_text default_writer row) (records_text rows) in
    omega arith

-- where no byte order mark stands before them
pub text_read : (rows : List (List (List ℕ)))
    → strip_bom (records_text rows) ≡ records_text rows
    → records_of (records_text rows) ≡ map read_back rows
unfolding records_of
text_read rows no_mark =
    let room : length rows ≤ length (records_text rows) + 1 =
    let some = enough rows in omega arith in
    rw no_mark (rows_read rows (length (records_text rows) + 1) room)
