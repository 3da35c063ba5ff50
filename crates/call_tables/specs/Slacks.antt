-- The records of slacks: of each end of each interval what it has to spare, or what it lacks.
use Rattle.std.specs.Prelude.{◌+◌, ◌-◌, ◌==◌, ◌++◌, ℕ, zero, suc, List, [], ◌∷◌, Option, None, Some, codes, decimal}
use Rattle.std.specs.Prelude.{length, min, nat_lt, slice_get, take, if◌then◌else◌}
use Rattle.csv.specs.Writing.{row_text, default_writer}
use Rattle.base_text.specs.lines.Milliseconds.{ticks_text}
use Rattle.model_history.specs.Rails.{Ends}
use Rattle.model_line.specs.{declared.line.Line.Line, declared.script.Script.Script}
use Rattle.model_line.specs.NamesByNumber.{parameter_name}
use Rattle.model_line.specs.Parameters.{declared_ends}
use Rattle.judge_report.specs.declared.upper_end.Lost.{Lost}
use Rattle.judge_margins.specs.declared.margins.end.Side.{Side}
use Rattle.judge_margins.specs.declared.margins.end.Side.TheVariants.{Above, Below}
use Rattle.judge_margins.specs.declared.margins.end.End.{End}
use Rattle.judge_margins.specs.margins.MarginsText.{end_moved, lost_words, side_word}
use Rattle.judge_margins.specs.margins.Widened.{param_at, side_at}
use Rattle.judge_slacks.specs.{declared.lack.Lack.Lack, declared.lack.Short.Short}

-- ---- numbers

-- the end moved inward by n
abbrev pub end_in : Ends → Side → ℕ → ℕ
end_in ends Above n = ends.greatest - n
end_in ends Below n = ends.least + n

-- the end moved outward by what it has to spare, or inward by what it lacks
abbrev pub reached : Ends → Side → End → Option Short → ℕ
reached ends side end None = end_moved ends side end.slack
reached ends side end (Some short) = end_in ends side short.by

-- by how much, and `-` where it is inward
abbrev pub amount : End → Option Short → ℕ
amount end None = end.slack
amount end (Some short) = short.by

abbrev pub sign : Option Short → List ℕ
sign None = []
sign (Some short) = codes "-"

-- ---- obligations

-- what is lost one tick further; where nothing is, no obligation reads the end, or it is at its limit
abbrev pub beyond : Line → List Script → ℕ → Option Lost → List ℕ
beyond line scripts slack (Some o) = lost_words line scripts (Some o)
beyond line scripts slack None = if slack == 0 then codes "limit" else codes "not tested"

-- the obligation that bounds the end
abbrev pub bound : Line → List Script → End → Option Short → List ℕ
bound line scripts end None = beyond line scripts end.slack end.lost
bound line scripts end (Some short) = lost_words line scripts (Some short.of)

-- obligations, the first behind this, with `;` between two
abbrev pub joined : Line → List Script → List ℕ → List Lost → List ℕ
joined line scripts before [] = []
joined line scripts before (o ∷ more) =
    before ++ (lost_words line scripts (Some o) ++ joined line scripts (codes ";") more)

-- the first three, and how many there are where there are more
abbrev pub count_mark : ℕ → List ℕ
count_mark n = if nat_lt 3 n then codes ";.." ++ decimal n else []

abbrev pub few_words : Line → List Script → List Lost → List ℕ
few_words line scripts left =
    joined line scripts [] (take (min (length left) 3) left) ++ count_mark (length left)

-- ---- records

abbrev pub slacks_header : List (List ℕ)
slacks_header =
    codes "parameter" ∷ codes "side" ∷ codes "declared" ∷ codes "reached" ∷ codes "slack"
    ∷ codes "bound" ∷ codes "declared_ms" ∷ codes "reached_ms" ∷ codes "slack_ms" ∷ codes "left"
    ∷ []

unfoldable pub slack_record : Line → List Script → ℕ → Side → End → Option Short → List Lost
    → List (List ℕ)
slack_record line scripts param side end short left =
    parameter_name line param ∷ side_word side
    ∷ decimal (end_moved (declared_ends line param) side 0)
    ∷ decimal (reached (declared_ends line param) side end short)
    ∷ (sign short ++ decimal (amount end short)) ∷ bound line scripts end short
    ∷ ticks_text line.tick_us (end_moved (declared_ends line param) side 0)
    ∷ ticks_text line.tick_us (reached (declared_ends line param) side end short)
    ∷ (sign short ++ ticks_text line.tick_us (amount end short)) ∷ few_words line scripts left ∷ []

-- the record of the end at a place
abbrev pub slack_row : Line → List Script → ℕ → Option End → Option Lack → List ℕ
slack_row line scripts place None lack = []
slack_row line scripts place (Some end) None = []
slack_row line scripts place (Some end) (Some lack) =
    row_text default_writer (slack_record line scripts (param_at place) (side_at place) end
    lack.short lack.left.items)

-- those of the first n ends, in order
abbrev pub slack_rows : Line → List Script → List End → List Lack → ℕ → List ℕ
slack_rows line scripts ends lacks zero = []
slack_rows line scripts ends lacks (suc n) =
    slack_rows line scripts ends lacks n
    ++ slack_row line scripts n (slice_get ends n) (slice_get lacks n)

-- the header, and a record for each end
abbrev pub slacks_text : Line → List Script → List End → List Lack → List ℕ
slacks_text line scripts ends lacks =
    row_text default_writer slacks_header ++ slack_rows line scripts ends lacks (length ends)
