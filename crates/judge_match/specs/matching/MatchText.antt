-- The line of what is settled of a record.
use Rattle.std.specs.Prelude.{[], ◌++◌, ◌≡◌, ◌<◌, ℕ, Bool, true, false, List, length, codes}
use Rattle.run_signal.specs.declared.tern.Tern.{Tern}
use Rattle.model_line.specs.Parameters.{terminal_count, param_count}
use Rattle.model_line.specs.{declared.line.Line.Line, declared.script.Script.Script}
use Rattle.model_line.specs.NamesByNumber.{terminal_name}
use Rattle.run_changes.specs.rows.PlayRows.{level_word}
use Rattle.run_waves.specs.waves.Text.{tern_word}
use Rattle.base_text.specs.lines.SpacedNumbers.{numbers_text, spaced}
use Rattle.judge_match.specs.declared.matching.seen.Match.{Match}
use Rattle.judge_match.specs.declared.matching.seen.Match.TheVariants.{Explained, Impossible, Unsettled}

-- what can be written: a timing with one number for each parameter and no steps, a terminal of the
-- line
abbrev pub IsWritten : Line → Match → Type 0
IsWritten line (Explained timing) =
    (length timing.values ≡ param_count line) × (timing.steps ≡ [])
IsWritten line (Impossible k trip t level derived) = k < terminal_count line
IsWritten line Unsettled = Unit {0}

-- `key` or `trip`
abbrev pub signal_word : Bool → List ℕ
signal_word false = codes "key"
signal_word true = codes "trip"

-- ` SIGNAL TICK seen L derived L`
abbrev pub clash_words : Bool → ℕ → Bool → Tern → List ℕ
clash_words trip t level derived =
    codes " " ++ (signal_word trip ++ (spaced t ++ (codes " seen " ++ (level_word level
    ++ (codes " derived " ++ tern_word derived)))))

-- the words after the name of the script
abbrev pub match_words : Line → Match → List ℕ
match_words line (Explained timing) = codes " explained" ++ numbers_text timing.values
match_words line (Impossible k trip t level derived) =
    codes " impossible " ++ (terminal_name line k ++ clash_words trip t level derived)
match_words line Unsettled = codes " open"

-- `SCRIPT explained VALUES`, `SCRIPT impossible TERMINAL SIGNAL TICK seen L derived L` or
-- `SCRIPT open`
abbrev pub match_line : Line → Script → Match → List ℕ
match_line line script settled = script.name ++ (match_words line settled ++ codes "\n")
