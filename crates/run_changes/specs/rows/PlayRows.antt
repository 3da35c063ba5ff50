-- The rows of one timing and script: a row for every change of every key and trip.
use Rattle.std.specs.Prelude.{[], ◌∷◌, ◌++◌, ℕ, zero, suc, Bool, true, false, List, codes, decimal}
use Rattle.std.specs.List.{concat}
use Rattle.model_history.specs.Each.{each_below}
use Rattle.model_line.specs.{declared.line.Line.Line, Parameters.terminal_count}
use Rattle.model_logic.specs.Histories.{History}
use Rattle.model_line.specs.NamesByNumber.{terminal_name}

abbrev pub level_word : Bool → List ℕ
level_word true = codes "1"
level_word false = codes "0"

-- a row of these six fields
abbrev pub row_fields : List ℕ → List ℕ → List ℕ → List ℕ → List ℕ → Bool → List ℕ
row_fields timing script tick terminal signal level =
    concat (timing ∷ codes "," ∷ script ∷ codes "," ∷ tick ∷ codes "," ∷ terminal ∷ codes ","
    ∷ signal ∷ codes "," ∷ level_word level ∷ codes "\n" ∷ [])

-- the row of a change of a terminal's signal, `key` or `trip`, at that tick and to that level
abbrev pub row_text : List ℕ → List ℕ → ℕ → List ℕ → List ℕ → Bool → List ℕ
row_text timing script t terminal signal level =
    row_fields timing script (decimal t) terminal signal level

-- one row where the level differs from that before, and none elsewhere
abbrev pub change_row : List ℕ → List ℕ → ℕ → List ℕ → List ℕ → Bool → Bool → List ℕ
change_row timing script t terminal signal true true = []
change_row timing script t terminal signal true false =
    row_text timing script t terminal signal false
change_row timing script t terminal signal false true =
    row_text timing script t terminal signal true
change_row timing script t terminal signal false false = []

-- the value at the tick before, and false before tick 0
abbrev pub value_before : (ℕ → Bool) → ℕ → Bool
value_before values zero = false
value_before values (suc t) = values t

-- the row of a signal at a tick, if it changes there
abbrev pub signal_row : List ℕ → List ℕ → ℕ → List ℕ → List ℕ → (ℕ → Bool) → List ℕ
signal_row timing script t terminal signal values =
    change_row timing script t terminal signal (value_before values t) (values t)

-- the rows of one tick and terminal, the key's before the trip's
abbrev pub terminal_rows : List ℕ → List ℕ → Line → History → ℕ → ℕ → List ℕ
terminal_rows timing script line h t k =
    signal_row timing script t (terminal_name line k) (codes "key") (h.key k)
    ++ signal_row timing script t (terminal_name line k) (codes "trip") (h.trip k)

-- the rows of one tick, terminals in line order
abbrev pub tick_rows : List ℕ → List ℕ → Line → History → ℕ → List ℕ
tick_rows timing script line h t =
    each_below (terminal_count line) (terminal_rows timing script line h t)

-- the rows of one timing and script, tick by tick
abbrev pub run_rows : List ℕ → List ℕ → Line → History → List ℕ
run_rows timing script line h = each_below line.horizon (tick_rows timing script line h)
