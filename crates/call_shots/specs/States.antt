-- The states that a test set plays, as a table.
use Rattle.std.specs.Prelude.{◌+◌, ◌-◌, ◌++◌, ℕ, zero, suc, Bool, List, [], ◌∷◌, Option, None, Some}
use Rattle.std.specs.Prelude.{codes, decimal, length, slice_get, if◌then◌else◌}
use Rattle.csv.specs.Writing.{row_text, default_writer}
use Rattle.base_text.specs.lines.Milliseconds.{ticks_text}
use Rattle.model_history.specs.Each.{each_below}
use Rattle.model_line.specs.Channels.{from_of}
use Rattle.model_line.specs.{declared.line.Line.Line, declared.script.Script.Script}
use Rattle.model_line.specs.declared.script.Element.TheVariants.{Z1, Z2, Rv, Uv, Cur}
use Rattle.model_line.specs.Parameters.{terminal_count}
use Rattle.model_line.specs.NamesByNumber.{terminal_name}
use Rattle.run_changes.specs.rows.PlayRows.{level_word}
use Rattle.call_verdicts.specs.declared.finding.Finding.{Finding}
use Rattle.call_shots.specs.Changes.{begins, count_begun, loses, next_begun, sees}

-- a word behind others, with `;` between
abbrev pub behind : List ℕ → List ℕ → List ℕ
behind [] word = word
behind (c ∷ more) word = (c ∷ more) ++ codes ";" ++ word

-- of the first n channels those to terminal k that are lost at tick t, by the names of their senders
abbrev pub lost_words : Line → Script → ℕ → ℕ → ℕ → List ℕ
lost_words line script k t zero = []
lost_words line script k t (suc n) =
    if loses line script k t n
    then behind (lost_words line script k t n) (terminal_name line (from_of line.channels.items n))
    else lost_words line script k t n

abbrev pub states_header : List (List ℕ)
states_header =
    codes "shot" ∷ codes "script" ∷ codes "terminal" ∷ codes "state" ∷ codes "from_ms"
    ∷ codes "lasts_ms" ∷ codes "z1" ∷ codes "z2" ∷ codes "rv" ∷ codes "uv" ∷ codes "cur"
    ∷ codes "lost" ∷ []

-- The fields of the state that begins at tick t, in the shot of this number: its own number, counted from 1, when it begins and how
-- long it lasts, and what terminal k sees throughout.
unfoldable pub state_record : Line → Script → ℕ → ℕ → ℕ → List (List ℕ)
state_record line script number k t =
    decimal number ∷ script.name ∷ terminal_name line k
    ∷ decimal (count_begun line script k t + 1) ∷ ticks_text line.tick_us t
    ∷ ticks_text line.tick_us (next_begun line script k (t + 1) (line.horizon - (t + 1)) - t)
    ∷ level_word (sees script k t Z1) ∷ level_word (sees script k t Z2)
    ∷ level_word (sees script k t Rv) ∷ level_word (sees script k t Uv)
    ∷ level_word (sees script k t Cur)
    ∷ lost_words line script k t (length line.channels.items) ∷ []

-- that of the tick, where a state begins there
abbrev pub state_at : Line → Script → ℕ → ℕ → ℕ → List ℕ
state_at line script number k t =
    if begins line script k t then row_text default_writer (state_record line script number k t)
    else []

-- those of all terminals
abbrev pub script_states : Line → Script → ℕ → List ℕ
script_states line script number =
    each_below (terminal_count line)
    (λ k. each_below line.horizon (λ t. state_at line script number k t))

-- those of a script, if there is one; those of shot i, counted from 0
abbrev pub states_of_script : Line → ℕ → Option Script → List ℕ
states_of_script line number None = []
states_of_script line number (Some script) = script_states line script number

abbrev pub states_of_shot : Line → List Script → ℕ → Option Finding → List ℕ
states_of_shot line scripts i None = []
states_of_shot line scripts i (Some found) =
    states_of_script line (i + 1) (slice_get scripts found.script)

-- the header, and the states of all shots
abbrev pub states_text : Line → List Script → List Finding → List ℕ
states_text line scripts shots =
    row_text default_writer states_header
    ++ each_below (length shots) (λ i. states_of_shot line scripts i (slice_get shots i))
