-- What a csv reader that stands between two records has left.
use Rattle.std.specs.Prelude.{◌≡◌, ◌+◌, ℕ, Bool, true, false, List, [], ◌∷◌, length, Option, None}
use Rattle.std.specs.Prelude.{Some}
use Rattle.std.specs.Borrow.{Bor}
use Rattle.csv.specs.Reading.{Ready, default_config, records_from, source_of, is_flexible}
use Rattle.csv.specs.Reading.{reader_config, reader_state, reader_trim}
use Rattle.csv.specs.declared.parser.State.{State}
use Rattle.csv.specs.{Machine.ends_at_end, declared.reader.Reader.Reader}
use Rattle.csv.specs.declared.reader.Trim.TheVariants as trim

-- the bytes that are left, of a text that is held
abbrev pub bytes_left : Reader (Bor (List ℕ)) → Option (List ℕ)
bytes_left rdr = source_of (λ text. Some text.now) rdr

-- the records that are left
abbrev pub records_left : State → Option (List ℕ) → List (List (List ℕ))
records_left s None = []
records_left s (Some bytes) = records_from default_config (length bytes + 1) s bytes

abbrev pub left_of : Reader (Bor (List ℕ)) → List (List (List ℕ))
left_of rdr = records_left (reader_state rdr) (bytes_left rdr)

-- a reader with no header row and records of any length, between two records
pub record IsReading (rdr : Reader (Bor (List ℕ))) : Type 0 where
  pub trim : reader_trim rdr ≡ trim.None
  pub ready : Ready rdr
  pub config : reader_config rdr ≡ default_config
  pub flexible : is_flexible rdr ≡ true
  pub between : ends_at_end (reader_state rdr) ≡ false
  pub known : (bytes : List ℕ) × (bytes_left rdr ≡ Some bytes)

-- a read takes the first record that is left, if there is one
abbrev pub NextRow : Bool → Reader (Bor (List ℕ)) → List (List ℕ) → Reader (Bor (List ℕ)) → Type 0
NextRow true old fields new = (left_of old ≡ fields ∷ left_of new) × IsReading new
NextRow false old fields new = left_of old ≡ []
