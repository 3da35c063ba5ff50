-- The texts of what is known of all obligations: their trees and timings, and the timings that fail.
use Rattle.std.specs.Prelude.{◌≡◌, ◌+◌, ◌*◌, ℕ, List, [], ◌∷◌, length, map, Ok}
use Rattle.std.specs.List.{All, flat_map, range_with_len, slice_range}
use Rattle.model_line.specs.{declared.line.Line.Line, declared.script.Script.Script}
use Rattle.model_line.specs.Parameters.{terminal_count}
use Rattle.model_line.specs.NamesByNumber.{terminal_name}
use Rattle.model_timing.specs.NamedValues.{NamedValues}
use Rattle.file_tables.specs.script.Printed.{records_text}
use Rattle.file_tables.specs.timing.Printed.{file_records}
use Rattle.file_tables.specs.timing.Timings.{timings_of}
use Rattle.judge_settle.specs.declared.settle.answer.Answer.{Answer}
use Rattle.judge_settle.specs.declared.settle.answer.Answer.TheVariants.{Held, Fails, Open}
use Rattle.judge_settle.specs.settle.Trees.{IsFailing}
use Rattle.cert_settle.specs.Grammar.{SettleResult, tree, fails}
use Rattle.cert_settle.specs.Text.{settle_text}
use Rattle.call_tables.specs.declared.row.Row.{Row}

-- the rows of script s, as many as terminals, in line order
abbrev pub rows_of : Line → List Row → ℕ → List Row
rows_of line rows s =
    slice_range rows (s * terminal_count line) (s * terminal_count line + terminal_count line)

-- ---- trees and timings

-- an answer as a text of settled trees says it
abbrev pub result_of : Answer → SettleResult
result_of (Held nodes) = tree nodes.items
result_of (Fails timing every) = fails timing.steps timing.values
result_of (Open nodes) = tree nodes.items

-- those of several rows, and of each script in order
abbrev pub results_of : List Row → List SettleResult
results_of rows = map (λ row. result_of row.settled.answer) rows

abbrev pub results_by_script : Line → List Script → List Row → List (List SettleResult)
results_by_script line scripts rows =
    map (λ s. results_of (rows_of line rows s)) (range_with_len 0 (length scripts))

-- the text that says them
abbrev pub trees_text : Line → List Script → List Row → List ℕ
trees_text line scripts rows = settle_text line scripts (results_by_script line scripts rows)

-- ---- timings that fail

-- the timing of an answer, if it is one, under this name
abbrev pub failing_named : List ℕ → Answer → List NamedValues
failing_named name (Held nodes) = []
failing_named name (Fails timing every) = record { name = name; timing = timing } ∷ []
failing_named name (Open nodes) = []

-- that of a row, under the name of its terminal
abbrev pub failing_of : Line → Row → List NamedValues
failing_of line row = failing_named (terminal_name line row.terminal) row.settled.answer

-- those of script s, in line order
abbrev pub failing_timings : Line → List Row → ℕ → List NamedValues
failing_timings line rows s = flat_map (failing_of line) (rows_of line rows s)

-- each fails the script's obligation at the terminal that it is named by
pub record FailsWhereNamed (line : Line) (script : Script) (timing : NamedValues) : Type 0 where
  pub terminal : ℕ
  pub named : timing.name ≡ terminal_name line terminal
  pub fails : IsFailing line script terminal timing.timing

-- the text has the records of these timings, and is read back as just these; and each fails
pub record IsTimingsText (line : Line) (script : Script) (timings : List NamedValues)
    (text : List ℕ) : Type 0 where
  pub text_is : text ≡ records_text (file_records line timings)
  pub read_back : timings_of line text ≡ Ok timings
  pub fail : All (FailsWhereNamed line script) timings
