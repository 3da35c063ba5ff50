-- What a read of a csv reader takes of the records that it has left.
use Rattle.std.proofs.Common.{◌≡◌, ℕ, ◌+◌, Bool, Bor, true, false, List, [], ◌∷◌, length, Option}
use Rattle.std.proofs.Common.{None, Some, refl, sym, ◌∙◌, inl, arith}
use Rattle.std.proofs.lemmas.Bool.{false≢true}
use Rattle.csv.specs.Machine.{Read, ends_at_end, next_record}
use Rattle.csv.specs.Reading.{ExplainsRead, NextIs, ReadRecord, ReadsNext, default_config}
use Rattle.csv.specs.Reading.{is_flexible, stops_reader, took_first}
use Rattle.csv.specs.declared.error.ErrorKind.{ErrorKind}
use Rattle.csv.specs.declared.error.ErrorKind.TheVariants as kind
use Rattle.csv.specs.{declared.parser.State.State, declared.reader.Reader.Reader}
use Rattle.csv.proofs.ReadFacts.{rows-end}
use Rattle.base_records.specs.Left.{IsReading, NextRow, bytes_left, records_left}
use Rattle.base_records.proofs.AllRecords.{after_read, first_record, no_record}

abbrev known : Bor (List ℕ) → Option (List ℕ)
known text = Some text.now

-- a record that was read is the first of those that were left
record IsFirst (s : State) (xs : List ℕ) (fields : List (List ℕ)) (t : State) (ys : List ℕ)
    : Type 0 where
  between : ends_at_end t ≡ false
  first : records_left s (Some xs) ≡ fields ∷ records_left t (Some ys)

is_first : (s : State) (xs : List ℕ) (fields : List (List ℕ)) (t : State) (ys : List ℕ)
    (o : Option Read) → ends_at_end s ≡ false → next_record default_config s [] [] xs ≡ o
    → NextIs o true fields t ys → IsFirst s xs fields t ys
is_first s xs fields t ys None between is next = absurd (false≢true (sym next))
is_first s xs fields t ys (Some p) between is next =
    let left = after_read default_config s [] [] xs p is in
    rw (next.1, next.2, next.3) (record {
      between = left.between;
      first = first_record default_config (length xs + 1) s xs p between (omega arith) is;
    })

row_read : (s : State) (xs : List ℕ) (fields : List (List ℕ)) (t : State)
    (after : Option (List ℕ)) → ends_at_end s ≡ false
    → ReadsNext default_config s (Some xs) after true fields t
    → (ys : List ℕ) × (after ≡ Some ys) × IsFirst s xs fields t ys
row_read s xs fields t None between next = absurd next
row_read s xs fields t (Some ys) between next = (
  ys,
  refl,
  is_first s xs fields t ys (next_record default_config s [] [] xs) between refl next,
)

-- a read takes the first record that is left, if there is one
pub next_of : (a b : Reader (Bor (List ℕ))) (found : Bool) (fields : List (List ℕ)) → IsReading a
    → ReadRecord known a b found fields → took_first b ≡ true → is_flexible b ≡ is_flexible a
    → NextRow found a fields b
next_of a b true fields reading read first flexible =
    let row = row_read a.state reading.known.0 fields b.state _ reading.between
    (rw (reading.config, reading.known.1) at read.0) in
    let left : bytes_left b ≡ Some row.0 = rw read.1 row.1 in (
      rw (reading.known.1, left) row.2.first,
      record {
        trim = read.3 ∙ reading.trim;
        ready = inl first;
        config = read.2 ∙ reading.config;
        flexible = flexible ∙ reading.flexible;
        between = row.2.between;
        known = (row.0, left);
      },
    )
next_of a b false fields reading read first flexible =
    let none = rows-end known a b fields default_config reading.known.0 reading.config
    reading.known.1 read in
    rw reading.known.1 (no_record default_config (length reading.known.0 + 1) a.state
    reading.known.0 none)

-- a text that is held fails a reader of records of any length for want of memory alone
pub stops : (a b : Reader (Bor (List ℕ))) (why : ErrorKind) → is_flexible a ≡ true
    → ExplainsRead known a b false why → stops_reader why ≡ true
stops a b (kind.Io e) flexible why = refl
stops a b kind.OutOfMemory flexible why = refl
stops a b (kind.UnequalLengths pos expected len) flexible why =
    absurd (false≢true (sym why.0 ∙ flexible))
stops a b (kind.Utf8 pos err) flexible why = absurd (false≢true why.0)
stops a b (kind.Serialize text) flexible why = absurd why
stops a b (kind.Deserialize pos err) flexible why = absurd why
