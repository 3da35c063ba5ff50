-- The cells of a map as CSV records.
use Rattle.std.specs.Prelude.{◌==◌, ◌+◌, ◌/◌, ◌%◌, ◌++◌, ℕ, List, [], ◌∷◌, Option, None, Some, codes, decimal}
use Rattle.std.specs.Prelude.{if◌then◌else◌}
use Rattle.csv.specs.Writing.{row_text, default_writer}
use Rattle.model_line.specs.{declared.line.Line.Line, declared.script.Script.Script}
use Rattle.model_line.specs.Parameters.{terminal_count}
use Rattle.model_line.specs.NamesByNumber.{script_name, terminal_name}
use Rattle.judge_margins.specs.{declared.map.axis.Axis.Axis, declared.map.axis.Axes.Axes}
use Rattle.judge_margins.specs.{declared.map.cell.Cell.Cell, declared.map.cell.Word.Word}
use Rattle.judge_margins.specs.declared.map.cell.Word.TheVariants.{Held, Open, Fails}
use Rattle.judge_margins.specs.map.Axes.{least_at, rows_of}
use Rattle.judge_margins.specs.map.Cells.{lost_of, word_of}

abbrev pub word_said : Word → List ℕ
word_said Held = codes "held"
word_said Open = codes "open"
word_said Fails = codes "fails"

-- `SCRIPT/TERMINAL`
abbrev pub obligation_said : Line → List Script → ℕ → List ℕ
obligation_said line scripts place =
    script_name scripts (place / terminal_count line)
    ++ (codes "/" ++ terminal_name line (place % terminal_count line))

-- obligations from the n-th on, with `;` between two
abbrev pub obligations_from : Line → List Script → ℕ → List ℕ → List ℕ
obligations_from line scripts n [] = []
obligations_from line scripts n (place ∷ places) =
    (if n == 0 then [] else codes ";")
    ++ (obligation_said line scripts place ++ obligations_from line scripts (n + 1) places)

abbrev pub obligations_said : Line → List Script → List ℕ → List ℕ
obligations_said line scripts places = obligations_from line scripts 0 places

-- `x,y,cell,lost`, and with one axis `x,cell,lost`: the least ends in ticks, the cell in a word, and
-- what is lost
abbrev pub header_by : Option Axis → List (List ℕ)
header_by None = codes "x" ∷ codes "cell" ∷ codes "lost" ∷ []
header_by (Some y) = codes "x" ∷ codes "y" ∷ codes "cell" ∷ codes "lost" ∷ []

abbrev pub record_by : Option Axis → ℕ → ℕ → List ℕ → List ℕ → List (List ℕ)
record_by None x row word lost = decimal x ∷ word ∷ lost ∷ []
record_by (Some y) x row word lost = decimal x ∷ decimal (least_at y row) ∷ word ∷ lost ∷ []

-- the record of a cell by its place
abbrev pub cell_record : Line → List Script → Axes → ℕ → Cell → List (List ℕ)
cell_record line scripts axes place cell =
    record_by axes.y (least_at axes.x (place / rows_of axes.y)) (place % rows_of axes.y)
    (word_said (word_of cell.rules.items))
    (obligations_said line scripts (lost_of cell.rules.items))

-- those from this place on
abbrev pub cell_rows : Line → List Script → Axes → ℕ → List Cell → List ℕ
cell_rows line scripts axes place [] = []
cell_rows line scripts axes place (cell ∷ cells) =
    row_text default_writer (cell_record line scripts axes place cell)
    ++ cell_rows line scripts axes (place + 1) cells

abbrev pub map_text : Line → List Script → Axes → List Cell → List ℕ
map_text line scripts axes cells =
    row_text default_writer (header_by axes.y) ++ cell_rows line scripts axes 0 cells
