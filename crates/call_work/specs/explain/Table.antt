-- The texts of what is answered.
use Rattle.std.specs.Prelude.{◌-◌, ◌++◌, ℕ, List, [], ◌∷◌, map, codes, decimal}
use Rattle.std.specs.Prelude.{nat_le, if◌then◌else◌}
use Rattle.std.specs.List.{flat_map}
use Rattle.csv.specs.Writing.{row_text, default_writer}
use Rattle.model_line.specs.declared.line.Line.{Line}
use Rattle.model_line.specs.NamesByNumber.{terminal_name}
use Rattle.model_timing.specs.{Timing.TimingValues, NamedValues.NamedValues}
use Rattle.file_tables.specs.script.Printed.{records_text}
use Rattle.file_tables.specs.timing.Printed.{file_records}
use Rattle.judge_match.specs.matching.MatchText.{signal_word}
use Rattle.run_changes.specs.rows.PlayRows.{level_word}
use Rattle.judge_match.specs.declared.explain.paired.Paired.{Paired}
use Rattle.judge_match.specs.declared.explain.answer.Explanation.{Explanation}
use Rattle.judge_match.specs.declared.explain.answer.Explanation.TheVariants.{Explained, Impossible, Open}
use Rattle.call_answer.specs.declared.done.Done.{Done}
use Rattle.call_answer.specs.declared.done.Done.TheVariants as done
use Rattle.call_ask.specs.declared.explain.ExplainForm.{ExplainForm}
use Rattle.call_ask.specs.declared.explain.ExplainForm.TheVariants as form

-- how many ticks the play is later, with `-` before it where it is earlier
abbrev pub difference_text : ℕ → ℕ → List ℕ
difference_text recorded played =
    if nat_le recorded played then decimal (played - recorded)
    else 45 ∷ decimal (recorded - played)

abbrev pub header_record : List (List ℕ)
header_record =
    codes "terminal" ∷ codes "signal" ∷ codes "level" ∷ codes "recorded" ∷ codes "played"
    ∷ codes "difference" ∷ []

-- the fields of a change
abbrev pub change_record : Line → Paired → List (List ℕ)
change_record line p =
    terminal_name line p.terminal ∷ signal_word p.trip ∷ level_word p.level ∷ decimal p.recorded
    ∷ decimal p.played ∷ difference_text p.recorded p.played ∷ []

-- the header, and a record for each change
abbrev pub changes_text : Line → List Paired → List ℕ
changes_text line rows =
    flat_map (row_text default_writer) (header_record ∷ map (change_record line) rows)

-- the timing as a timings file, under the name `explained`
abbrev pub named_timing : TimingValues → NamedValues
named_timing timing = record { name = codes "explained"; timing = timing }

abbrev pub timing_text : Line → TimingValues → List ℕ
timing_text line timing = records_text (file_records line (named_timing timing ∷ []))

abbrev pub explained_text : Line → ExplainForm → TimingValues → List Paired → List ℕ
explained_text line form.Changes timing rows = changes_text line rows
explained_text line form.Timings timing rows = timing_text line timing

-- a line that tells that there is no timing, and in how many parts that is seen
abbrev pub none_said : ℕ → List ℕ
none_said parts = codes "no timing, in " ++ (decimal parts ++ codes " parts\n")

-- the text and the status of an answer
abbrev pub answer_text : Line → ExplainForm → Explanation → List ℕ
answer_text line form (Explained timing rows) = explained_text line form timing rows.items
answer_text line form (Impossible nodes parts) = none_said parts
answer_text line form Open = codes "open\n"

abbrev pub answer_status : Explanation → Done
answer_status (Explained timing rows) = done.Good
answer_status (Impossible nodes parts) = done.SomeNo
answer_status Open = done.SomeUndecided
