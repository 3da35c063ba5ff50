-- What the words of `choose` ask for, or why nothing.
use Rattle.std.specs.Prelude.{◌-◌, ℕ, List, Result, Ok, Err, map}
use Rattle.model_line.specs.declared.line.Line.{Line}
use Rattle.file_study.specs.times.{Names.name_of, Parts.names_of}
use Rattle.call_choose.specs.{Asked.rows_asked, Rows.Row, declared.fault.ChooseFault.ChooseFault}
use Rattle.call_choose.specs.declared.fault.ChooseFault.TheVariants as fault
use Rattle.call_work.specs.{load.Chosen.name_of_param, load.Nearest.nearest}
use Rattle.call_work.specs.choose.Denials.{word_at}
use Rattle.call_work.specs.declared.choose.denial.ChooseDenial.{ChooseDenial}
use Rattle.call_work.specs.declared.choose.denial.ChooseDenial.TheVariants as denial

-- of a name that stands for no parameter the nearest that does
abbrev pub denial_by : Line → List (List ℕ) → ChooseFault → ChooseDenial
denial_by line words (fault.Unknown place number) =
    denial.Unknown place number
    (nearest (map name_of_param line.params.items)
    (name_of (names_of (word_at words place)) (number - 1)))
denial_by line words (fault.Delay place name) = denial.Delay place name

abbrev pub denied_by : Line → List (List ℕ) → Result (List Row) ChooseFault
    → Result (List Row) ChooseDenial
denied_by line words (Ok rows) = Ok rows
denied_by line words (Err why) = Err (denial_by line words why)

abbrev pub chosen_rows : Line → List (List ℕ) → Result (List Row) ChooseDenial
chosen_rows line words = denied_by line words (rows_asked line words)
