-- The table of times.
use Rattle.std.specs.Prelude.{◌≡◌, ◌++◌, ◌||◌, ℕ, zero, suc, true, false, List, [], ◌∷◌}
use Rattle.csv.specs.Writing.{row_text, default_writer}
use Rattle.model_line.specs.declared.line.Line.{Line}
use Rattle.model_line.specs.Parameters.{terminal_count}
use Rattle.file_borders.specs.declared.loose.LooseFault.{LooseFault}
use Rattle.judge_times.specs.declared.stretch.{Along.Along, Stretch.Stretch}
use Rattle.judge_times.specs.declared.stretch.Along.TheVariants as along
use Rattle.call_answer.specs.{Answers.Answers, Answers.status_by, declared.done.Done.Done}
use Rattle.call_times.specs.declared.found.Found.{Found}
use Rattle.call_times.specs.Question.{AreTold, question_of}
use Rattle.call_times.specs.Rows.{stretch_rows, times_header}

abbrev pub nothing : Found
nothing = record { some_fails = false; some_open = false }

abbrev pub and_found : Found → Found → Found
and_found one other = record {
  some_fails = one.some_fails || other.some_fails;
  some_open = one.some_open || other.some_open;
}

abbrev pub found_of : Along → Found
found_of along.Held = nothing
found_of along.Fails = record { some_fails = true; some_open = false }
found_of along.Open = record { some_fails = false; some_open = true }

abbrev pub found_in : List Stretch → Found
found_in [] = nothing
found_in (one ∷ more) = and_found (found_of one.told) (found_in more)

-- what is told: whether something fails or is open, and records
abbrev pub Telling : Type 1
Telling = Found → List ℕ → Type 0

pub record IsNothing (found : Found) (rows : List ℕ) : Type 0 where
  pub found_is : found ≡ nothing
  pub rows_is : rows ≡ []

-- one thing and then another
pub record Both (IsFirst IsSecond : Telling) (found : Found) (rows : List ℕ) : Type 0 where
  pub first_found : Found
  pub first_rows : List ℕ
  pub second_found : Found
  pub second_rows : List ℕ
  pub first : IsFirst first_found first_rows
  pub second : IsSecond second_found second_rows
  pub found_is : found ≡ and_found first_found second_found
  pub rows_is : rows ≡ first_rows ++ second_rows

-- of a fault at a terminal: stretches of its first time, each of which is so over the line itself
pub record AtTerminal (line : Line) (loose : LooseFault) (k : ℕ) (found : Found) (rows : List ℕ) : Type 0 where
  pub stretches : List Stretch
  pub are : AreTold (question_of line loose) k stretches
  pub found_is : found ≡ found_in stretches
  pub rows_is : rows ≡ stretch_rows line loose k stretches

-- at the first n terminals
abbrev pub AtTerminals : Line → LooseFault → ℕ → Telling
AtTerminals line loose zero = IsNothing
AtTerminals line loose (suc n) = Both (AtTerminals line loose n) (AtTerminal line loose n)

abbrev pub OfFault : Line → LooseFault → Telling
OfFault line loose = AtTerminals line loose (terminal_count line)

abbrev pub OfFaults : Line → List LooseFault → Telling
OfFaults line [] = IsNothing
OfFaults line (loose ∷ more) = Both (OfFault line loose) (OfFaults line more)

-- the header and the records; the status is 1 where something fails, 2 where nothing does and something is open,
-- else 0
pub record AreTimesTold (line : Line) (faults : List LooseFault) (status : Done) (text : List ℕ) : Type 0 where
  pub found : Found
  pub rows : List ℕ
  pub are : OfFaults line faults found rows
  pub status_is : status ≡ status_by found.some_fails found.some_open
  pub text_is : text ≡ row_text default_writer times_header ++ rows

abbrev pub times_answer : Line → List LooseFault → Answers
times_answer line faults = AreTimesTold line faults

-- these rows are told after those
pub record Adds (telling : Telling) (old new : List ℕ) (found : Found) : Type 0 where
  pub rows : List ℕ
  pub is : telling found rows
  pub text : new ≡ old ++ rows
