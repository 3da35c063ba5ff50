-- What is said of a record of the field, for every choice of delays, and the lines that say it.
use Rattle.std.specs.Prelude.{◌≡◌, ◌<◌, ◌^◌, ◌++◌, ℕ, List, Some, IsTrue, codes, length, slice_get}
use Rattle.std.specs.List.{All}
use Rattle.model_history.specs.Rails.{Covers}
use Rattle.model_line.specs.Parameters.{param_count, terminal_count}
use Rattle.model_line.specs.PlainNames.{is_plain_name}
use Rattle.model_line.specs.{declared.line.Line.Line, declared.script.Script.Script}
use Rattle.model_logic.specs.Choice.{Choice, IsInside, steady_choice}
use Rattle.model_logic.specs.Histories.{History, IsLineHistory, IsSameHistory}
use Rattle.model_timing.specs.Candidates.{candidate, candidate_count}
use Rattle.base_text.specs.lines.SpacedNumbers.{numbers_text}
use Rattle.run_waves.specs.derived.Claims.{pairs_of, derived_key, derived_trip}
use Rattle.judge_match.specs.{matching.Recorded.recorded, matching.Waves.SeenValues}
use Rattle.cert_own.specs.WholeLines.{whole_lines}

-- ---- of a record

-- these numbers, one for each parameter, are a choice inside the declared intervals, whose history
-- is what was recorded
pub record IsGivenBy (line : Line) (script : Script) (values : SeenValues) (numbers : List ℕ)
    : Type 0 where
  pub many : length numbers ≡ param_count line
  pub inside : IsInside line (steady_choice line numbers)
  pub history : History
  pub is_history : IsLineHistory line script (steady_choice line numbers) history
  pub same : IsSameHistory line history (recorded values)

-- no history of any choice of delays inside the declared intervals is what was recorded
abbrev pub IsGivenByNone : Line → Script → SeenValues → Type 0
IsGivenByNone line script values =
    (choice : Choice) (h : History) → IsInside line choice → IsLineHistory line script choice h
    → ¬ (IsSameHistory line h (recorded values))

-- nothing that was recorded is excluded: the pair that the interval rules give over the declared
-- intervals, where what is received are the keys that were recorded, allows it at each terminal and
-- tick; and the history of no candidate is what was recorded
pub record IsOpenRecord (line : Line) (script : Script) (values : SeenValues) : Type 0 where
  pub keys : (k t : ℕ) → k < terminal_count line → t < line.horizon
      → Covers (derived_key line script (pairs_of values.keys) k t)
      ((recorded values).key k t)
  pub trips : (k t : ℕ) → k < terminal_count line → t < line.horizon
      → Covers (derived_trip line script (pairs_of values.keys) k t)
      ((recorded values).trip k t)
  pub no_candidate : (i : ℕ) (h : History) → i < candidate_count line
      → IsLineHistory line script (steady_choice line (candidate line i).values) h
      → ¬ (IsSameHistory line h (recorded values))

-- ---- of its line

-- what a line says of a record: numbers that give it; that it is impossible, with words of the
-- place; or that it is open
pub data Matched : Type 0 where
  explained : List ℕ → Matched
  impossible : List ℕ → Matched
  unsettled : Matched

-- ` explained` and numbers, ` impossible ` and words, or ` open`
abbrev pub matched_words : Matched → List ℕ
matched_words (explained numbers) = codes " explained" ++ numbers_text numbers
matched_words (impossible place) = codes " impossible " ++ place
matched_words unsettled = codes " open"

-- numbers are of 32 bits, as are all that are written
abbrev pub HasShortValues : Matched → Type 0
HasShortValues (explained numbers) = All (λ n. n < 2 ^ 32) numbers
HasShortValues (impossible place) = Unit {0}
HasShortValues unsettled = Unit {0}

-- whole line i of the text, the first being 0, is `NAME WORDS`
pub record HasMatch (text : List ℕ) (i : ℕ) (name : List ℕ) (said : Matched) : Type 0 where
  pub plain : IsTrue (is_plain_name name)
  pub short : HasShortValues said
  pub stands : slice_get (whole_lines text) i ≡ Some (name ++ matched_words said)

-- what is true where a line says so
abbrev pub HoldsOfRecord : Matched → Line → Script → SeenValues → Type 0
HoldsOfRecord (explained numbers) line script values = IsGivenBy line script values numbers
HoldsOfRecord (impossible place) line script values = IsGivenByNone line script values
HoldsOfRecord unsettled line script values = IsOpenRecord line script values

-- record i is of the script of that name, and this holds of it
pub record HoldsOfRecordAt (line : Line) (scripts : List Script) (records : List SeenValues) (i : ℕ)
    (name : List ℕ) (Fact : Line → Script → SeenValues → Type 0) : Type 0 where
  pub values : SeenValues
  pub stands : slice_get records i ≡ Some values
  pub script : Script
  pub script_is : slice_get scripts values.script ≡ Some script
  pub name_is : script.name ≡ name
  pub holds : Fact line script values

-- ---- of all records

-- some numbers, which are a choice inside, give it
abbrev pub IsGivenBySome : Line → Script → SeenValues → Type 0
IsGivenBySome line script values = (numbers : List ℕ) × IsGivenBy line script values numbers

-- so it is of each record
abbrev pub AllGiven : Line → List Script → List SeenValues → Type 0
AllGiven line scripts records =
    (i : ℕ) (values : SeenValues) → slice_get records i ≡ Some values
    → (name : List ℕ) × HoldsOfRecordAt line scripts records i name IsGivenBySome

-- this holds of some record
abbrev pub HoldsOfSomeRecord : Line → List Script → List SeenValues
    → (Line → Script → SeenValues → Type 0) → Type 0
HoldsOfSomeRecord line scripts records Fact =
    (i : ℕ) × (name : List ℕ) × HoldsOfRecordAt line scripts records i name Fact
