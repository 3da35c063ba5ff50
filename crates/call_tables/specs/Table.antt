-- The table of settled obligations, as CSV records.
use Rattle.std.specs.Prelude.{ℕ, Bool, true, false, List, [], ◌∷◌, map, codes}
use Rattle.std.specs.List.{flat_map}
use Rattle.csv.specs.Writing.{row_text, default_writer}
use Rattle.model_line.specs.{declared.line.Line.Line, declared.script.Script.Script}
use Rattle.model_line.specs.NamesByNumber.{script_name, terminal_name}
use Rattle.judge_settle.specs.declared.settle.answer.Answer.{Answer}
use Rattle.judge_settle.specs.settle.Answers.{is_failing as fails_so, is_open as is_left}
use Rattle.judge_settle.specs.settle.Words.{by_word, choices_word}
use Rattle.judge_settle.specs.declared.settle.answer.Answer.TheVariants.{Held, Fails, Open}
use Rattle.call_tables.specs.declared.row.Row.{Row}

abbrev pub answer_word : Answer → List ℕ
answer_word (Held nodes) = codes "held"
answer_word (Fails timing every) = codes "fails"
answer_word (Open nodes) = codes "open"

-- for which choices it fails
abbrev pub fails_for : Answer → List ℕ
fails_for (Held nodes) = []
fails_for (Fails timing every) = choices_word every
fails_for (Open nodes) = []

-- the name of the timing that fails: that of its terminal
abbrev pub timing_name : Answer → List ℕ → List ℕ
timing_name (Held nodes) terminal = []
timing_name (Fails timing every) terminal = terminal
timing_name (Open nodes) terminal = []

abbrev pub header_record : List (List ℕ)
header_record =
    codes "script" ∷ codes "terminal" ∷ codes "answer" ∷ codes "fails_for" ∷ codes "by"
    ∷ codes "timing" ∷ []

-- the fields of an obligation
abbrev pub row_record : Line → List Script → Row → List (List ℕ)
row_record line scripts row =
    script_name scripts row.script ∷ terminal_name line row.terminal
    ∷ answer_word row.settled.answer ∷ fails_for row.settled.answer
    ∷ by_word row.settled.by
    ∷ timing_name row.settled.answer (terminal_name line row.terminal) ∷ []

-- the header, and a record for each row
abbrev pub table_text : Line → List Script → List Row → List ℕ
table_text line scripts rows =
    flat_map (row_text default_writer) (header_record ∷ map (row_record line scripts) rows)

-- for every choice
abbrev pub fails_for_every : Answer → Bool
fails_for_every (Held nodes) = false
fails_for_every (Fails timing every) = every
fails_for_every (Open nodes) = false

abbrev pub is_failing : Row → Bool
is_failing row = fails_so row.settled.answer

abbrev pub is_open : Row → Bool
is_open row = is_left row.settled.answer
