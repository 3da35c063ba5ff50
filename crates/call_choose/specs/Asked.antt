-- What the words of `choose` ask for, or why nothing.
use Rattle.std.specs.Prelude.{◌+◌, ◌++◌, ℕ, List, [], ◌∷◌, Option, None, Some, Result, Ok, Err}
use Rattle.std.specs.Prelude.{length, nat_lt, if◌then◌else◌}
use Rattle.base_memory.specs.Gives.{◌>>=◌}
use Rattle.model_line.specs.{declared.line.Line.Line, NamesByNumber.parameter_name}
use Rattle.model_line.specs.Parameters.{is_delay}
use Rattle.file_study.specs.times.Names.{first_failing, name_count, name_of, params_of}
use Rattle.file_study.specs.times.Parts.{names_of}
use Rattle.call_choose.specs.Rows.{Row, rows_of_word, words_or_own}
use Rattle.call_choose.specs.declared.fault.ChooseFault.{ChooseFault}
use Rattle.call_choose.specs.declared.fault.ChooseFault.TheVariants as fault

-- ---- a word, by its place

-- the first name of a list, counted from 0, that stands for no parameter
abbrev pub unknown_in : Line → List ℕ → Option ℕ
unknown_in line names =
    first_failing (λ k. nat_lt 0 (length (params_of line (name_of names k)))) (name_count names)

abbrev pub first_delay : Line → List ℕ → Option ℕ
first_delay line [] = None
first_delay line (param ∷ params) =
    if is_delay line param then Some param else first_delay line params

-- of a delay its name
abbrev pub delay_fault : Line → ℕ → Option ℕ → Option ChooseFault
delay_fault line place None = None
delay_fault line place (Some param) = Some (fault.Delay place (parameter_name line param))

-- the first name that is unknown, or else the first delay
abbrev pub fault_by : Line → ℕ → List ℕ → Option ℕ → Option ChooseFault
fault_by line place word (Some k) = Some (fault.Unknown place (k + 1))
fault_by line place word None =
    delay_fault line place (first_delay line (params_of line (names_of word)))

abbrev pub rows_unless : Line → List ℕ → Option ChooseFault → Result (List Row) ChooseFault
rows_unless line word None = Ok (rows_of_word line word)
rows_unless line word (Some why) = Err why

abbrev pub word_asked : Line → ℕ → List ℕ → Result (List Row) ChooseFault
word_asked line place word =
    rows_unless line word (fault_by line place word (unknown_in line (names_of word)))

-- words from this place on, one after another; the first fault
abbrev pub words_asked : Line → ℕ → List (List ℕ) → Result (List Row) ChooseFault
words_asked line place [] = Ok []
words_asked line place (word ∷ words) = do
  rows ← word_asked line place word
  more ← words_asked line (place + 1) words
  Ok (rows ++ more)

-- of the words that are given, or of those of the line
abbrev pub rows_asked : Line → List (List ℕ) → Result (List Row) ChooseFault
rows_asked line words = words_asked line 0 (words_or_own line words)
