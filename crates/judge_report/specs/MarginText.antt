-- The line of a margin.
use Rattle.std.specs.Prelude.{◌++◌, ℕ, List, codes, decimal, Option, None, Some}
use Rattle.model_line.specs.NamesByNumber.{terminal_name, parameter_name, script_name}
use Rattle.model_line.specs.{declared.script.Script.Script, declared.line.Line.Line}
use Rattle.model_line.specs.Parameters.{declared_ends}
use Rattle.judge_report.specs.{declared.upper_end.Lost.Lost, declared.upper_end.UpperEnd.UpperEnd}

-- the margin, or `none`
abbrev pub greatest_words : Option ℕ → List ℕ
greatest_words None = codes "none"
greatest_words (Some v) = decimal v

-- `lost SCRIPT TERMINAL`, or `all` where nothing is lost
abbrev pub lost_words : Line → List Script → Option Lost → List ℕ
lost_words line scripts None = codes " all"
lost_words line scripts (Some lost) =
    codes " lost " ++ (script_name scripts lost.script
    ++ (codes " " ++ terminal_name line lost.terminal))

-- `margin PARAMETER V declared G` and what is lost
abbrev pub margin_line : Line → List Script → ℕ → UpperEnd → List ℕ
margin_line line scripts param end =
    codes "margin " ++ (parameter_name line param
    ++ (codes " " ++ (greatest_words end.greatest
    ++ (codes " declared " ++ (decimal (declared_ends line param).greatest
    ++ (lost_words line scripts end.lost ++ codes "\n"))))))
