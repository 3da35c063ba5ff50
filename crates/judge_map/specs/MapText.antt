-- The settled cells of a map as CSV records.
use Rattle.std.specs.Prelude.{◌/◌, ◌%◌, ◌+◌, ◌++◌, ℕ, List, [], ◌∷◌, Option, None, Some}
use Rattle.std.specs.Prelude.{codes, decimal, get_or}
use Rattle.csv.specs.Writing.{row_text, default_writer}
use Rattle.model_line.specs.{declared.line.Line.Line, declared.script.Script.Script}
use Rattle.judge_margins.specs.{declared.map.axis.Axis.Axis, declared.map.axis.Axes.Axes}
use Rattle.judge_margins.specs.map.Axes.{least_at, rows_of}
use Rattle.judge_margins.specs.map.MapText.{obligation_said, obligations_said}
use Rattle.judge_settle.specs.settle.Words.{choices_word}
use Rattle.judge_map.specs.declared.known.Known.{Known}
use Rattle.judge_map.specs.declared.known.Known.TheVariants as known
use Rattle.judge_map.specs.{declared.cell.SettledCell.SettledCell, declared.cell.Word.Word}
use Rattle.judge_map.specs.declared.cell.Word.TheVariants.{Held, Open, Fails}
use Rattle.judge_map.specs.{Known.is_never_met, Cells.failing_of, Cells.lost_of, Cells.word_of}

abbrev pub word_said : Word → List ℕ
word_said Held = codes "held"
word_said Open = codes "open"
word_said Fails = codes "fails"

-- the obligation that is named of those that fail, as `SCRIPT/TERMINAL`; empty where none fails
abbrev pub failing_said : Line → List Script → Option ℕ → List ℕ
failing_said line scripts None = []
failing_said line scripts (Some place) = obligation_said line scripts place

-- for which choices that obligation fails: `every` or `some`
abbrev pub choices_said : List Known → Option ℕ → List ℕ
choices_said all None = []
choices_said all (Some place) = choices_word (is_never_met (get_or all place known.Open))

-- `x,y,cell,lost,fails,choices`, and with one axis without `y`: the least ends in ticks, the cell in a
-- word, what is lost, the obligation that is named of those that fail, and for which choices it does
abbrev pub header_by : Option Axis → List (List ℕ)
header_by None =
    codes "x" ∷ codes "cell" ∷ codes "lost" ∷ codes "fails" ∷ codes "choices" ∷ []
header_by (Some y) =
    codes "x" ∷ codes "y" ∷ codes "cell" ∷ codes "lost" ∷ codes "fails" ∷ codes "choices" ∷ []

-- what a cell says behind its least ends
pub record Told : Type 0 where
  pub word : List ℕ
  pub lost : List ℕ
  pub fails : List ℕ
  pub choices : List ℕ

abbrev pub telling : List ℕ → List ℕ → List ℕ → List ℕ → Told
telling word lost fails choices =
    record { word = word; lost = lost; fails = fails; choices = choices }

abbrev pub told_of : Line → List Script → List Known → Told
told_of line scripts all =
    telling (word_said (word_of all)) (obligations_said line scripts (lost_of all))
    (failing_said line scripts (failing_of all)) (choices_said all (failing_of all))

abbrev pub record_by : Option Axis → ℕ → ℕ → Told → List (List ℕ)
record_by None x row told =
    decimal x ∷ told.word ∷ told.lost ∷ told.fails ∷ told.choices ∷ []
record_by (Some y) x row told =
    decimal x ∷ decimal (least_at y row) ∷ told.word ∷ told.lost ∷ told.fails ∷ told.choices ∷ []

-- the record of a cell by its place
abbrev pub cell_record : Line → List Script → Axes → ℕ → SettledCell → List (List ℕ)
cell_record line scripts axes place cell =
    record_by axes.y (least_at axes.x (place / rows_of axes.y)) (place % rows_of axes.y)
    (told_of line scripts cell.known.items)

-- those from this place on
abbrev pub cell_rows : Line → List Script → Axes → ℕ → List SettledCell → List ℕ
cell_rows line scripts axes place [] = []
cell_rows line scripts axes place (cell ∷ cells) =
    row_text default_writer (cell_record line scripts axes place cell)
    ++ cell_rows line scripts axes (place + 1) cells

abbrev pub map_text : Line → List Script → Axes → List SettledCell → List ℕ
map_text line scripts axes cells =
    row_text default_writer (header_by axes.y) ++ cell_rows line scripts axes 0 cells
