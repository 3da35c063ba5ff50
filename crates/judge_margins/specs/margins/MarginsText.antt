-- The rows of margins: a header, and a row for each end.
use Rattle.std.specs.Prelude.{◌+◌, ◌-◌, ◌++◌, ℕ, List, [], ◌∷◌, codes, decimal, Option, None, Some}
use Rattle.base_text.specs.lines.Milliseconds.{ticks_text}
use Rattle.model_history.specs.Rails.{Ends}
use Rattle.model_line.specs.NamesByNumber.{terminal_name, parameter_name, script_name}
use Rattle.model_line.specs.{declared.script.Script.Script, declared.line.Line.Line}
use Rattle.model_line.specs.Parameters.{declared_ends}
use Rattle.judge_report.specs.declared.upper_end.Lost.{Lost}
use Rattle.judge_margins.specs.{declared.margins.end.Side.Side, declared.margins.end.End.End}
use Rattle.judge_margins.specs.declared.margins.end.Side.TheVariants.{Above, Below}
use Rattle.judge_margins.specs.margins.Widened.{param_at, side_at}

abbrev pub side_word : Side → List ℕ
side_word Above = codes "above"
side_word Below = codes "below"

-- the end as it is declared, and moved outward by n
abbrev pub end_moved : Ends → Side → ℕ → ℕ
end_moved ends Above n = ends.greatest + n
end_moved ends Below n = ends.least - n

-- `SCRIPT/TERMINAL`, or nothing
abbrev pub lost_words : Line → List Script → Option Lost → List ℕ
lost_words line scripts None = []
lost_words line scripts (Some o) =
    script_name scripts o.script ++ (codes "/" ++ terminal_name line o.terminal)

-- `PARAMETER,SIDE,`
abbrev pub end_head : Line → ℕ → Side → List ℕ
end_head line param side =
    parameter_name line param ++ (codes "," ++ (side_word side ++ codes ","))

-- `DECLARED,REACHED,SLACK,`, in ticks
abbrev pub end_numbers : Ends → Side → ℕ → List ℕ
end_numbers ends side slack =
    decimal (end_moved ends side 0) ++ (codes "," ++ (decimal (end_moved ends side slack)
    ++ (codes "," ++ (decimal slack ++ codes ","))))

-- `,DECLARED_MS,REACHED_MS,SLACK_MS`, the same in milliseconds
abbrev pub end_times : ℕ → Ends → Side → ℕ → List ℕ
end_times tick_us ends side slack =
    codes "," ++ (ticks_text tick_us (end_moved ends side 0) ++ (codes ","
    ++ (ticks_text tick_us (end_moved ends side slack) ++ (codes "," ++ ticks_text tick_us slack))))

-- `PARAMETER,SIDE,DECLARED,REACHED,SLACK,LOST,DECLARED_MS,REACHED_MS,SLACK_MS`
abbrev pub end_row : Line → List Script → ℕ → Side → End → List ℕ
end_row line scripts param side end =
    end_head line param side ++ (end_numbers (declared_ends line param) side end.slack
    ++ (lost_words line scripts end.lost
    ++ (end_times line.tick_us (declared_ends line param) side end.slack ++ codes "\n")))

abbrev pub header : List ℕ
header =
    codes "parameter,side,declared,reached,slack,lost,declared_ms,reached_ms,slack_ms\n"

-- the rows from this place on
abbrev pub end_rows : Line → List Script → ℕ → List End → List ℕ
end_rows line scripts place [] = []
end_rows line scripts place (end ∷ ends) =
    end_row line scripts (param_at place) (side_at place) end
    ++ end_rows line scripts (place + 1) ends

abbrev pub margins_rows : Line → List Script → List End → List ℕ
margins_rows line scripts ends = header ++ end_rows line scripts 0 ends
