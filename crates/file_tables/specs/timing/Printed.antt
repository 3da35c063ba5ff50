-- The records that stand for timings, and their text.
use Rattle.std.specs.Prelude.{◌≢◌, ◌+◌, ◌≤◌, ◌<◌, ◌++◌, ℕ, List, [], ◌∷◌, length, map, get_or}
use Rattle.std.specs.Prelude.{IsTrue}
use Rattle.std.specs.List.{flat_map}
use Rattle.std.specs.Fmt.{decimal}
use Rattle.model_line.specs.{declared.line.Line.Line, PlainNames.is_plain_name}
use Rattle.model_line.specs.NamesByNumber.{parameter_name}
use Rattle.model_timing.specs.declared.step.Step.{Step}
use Rattle.file_tables.specs.timing.Row.{header_record}
use Rattle.model_timing.specs.{Timing.ascend, Inside.IsTimingInside}
use Rattle.model_timing.specs.NamedValues.{NamedValues}

-- a row with the timing's name alone
abbrev pub name_record : List ℕ → List (List ℕ)
name_record name = name ∷ [] ∷ [] ∷ []

-- a parameter and its number
abbrev pub number_record : Line → List ℕ → ℕ → ℕ → List (List ℕ)
number_record line name i value = name ∷ parameter_name line i ∷ decimal value ∷ []

-- so for each of these numbers, of which the first is that of parameter i
abbrev pub number_records : Line → List ℕ → ℕ → List ℕ → List (List (List ℕ))
number_records line name i [] = []
number_records line name i (value ∷ values) =
    number_record line name i value ∷ number_records line name (i + 1) values

-- a step: the delay, `@` and the tick, and the number from then on
abbrev pub step_record : Line → List ℕ → Step ℕ → List (List ℕ)
step_record line name step =
    name ∷ (parameter_name line step.param ++ 64 ∷ decimal step.from) ∷ decimal step.value ∷ []

-- the name alone, each parameter's number, and each step
abbrev pub timing_records : Line → NamedValues → List (List (List ℕ))
timing_records line t =
    name_record t.name ∷ (number_records line t.name 0 t.timing.values
    ++ map (step_record line t.name) t.timing.steps)

-- the header, and then each timing's records
abbrev pub file_records : Line → List NamedValues → List (List (List ℕ))
file_records line timings = header_record ∷ flat_map (timing_records line) timings

-- a timing that a file of the line may hold: its name is plain, it is inside, its steps ascend
pub record MayStand (line : Line) (t : NamedValues) : Type 0 where
  pub plain_name : IsTrue (is_plain_name t.name)
  pub inside : IsTimingInside line t.timing
  pub ascending : IsTrue (ascend t.timing.steps)

-- as many timings as a file may hold, 1 to 16, no two of one name
pub record AreOfOneFile (timings : List NamedValues) : Type 0 where
  pub some : 1 ≤ length timings
  pub few : length timings ≤ 16
  pub once : (j k : ℕ) → j < k → k < length timings
      → get_or (map (λ t. t.name) timings) j [] ≢ get_or (map (λ t. t.name) timings) k []

-- how many steps these timings have
abbrev pub steps_in : List NamedValues → ℕ
steps_in [] = 0
steps_in (t ∷ timings) = length t.timing.steps + steps_in timings
