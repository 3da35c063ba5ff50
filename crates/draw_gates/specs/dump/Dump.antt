-- A value change dump (IEEE 1364): all values at time 0, and then each change at its time.
use Rattle.std.specs.Prelude.{◌++◌, ◌*◌, ◌-◌, ℕ, suc, Bool, true, false, List, [], ◌∷◌, codes}
use Rattle.std.specs.Prelude.{decimal, length}
use Rattle.model_history.specs.Each.{each_below}
use Rattle.model_line.specs.declared.line.Line.{Line}
use Rattle.net_gates.specs.NetOf.{NetOf}
use Rattle.run_changes.specs.rows.PlayRows.{level_word}
use Rattle.draw_gates.specs.dump.Variables.{code_of, declarations}

-- a value for each gate at each tick
abbrev pub GateLevels : Type 0
GateLevels = ℕ → ℕ → Bool

-- the time of a tick, in microseconds
abbrev pub time_text : ℕ → ℕ → List ℕ
time_text tick_us t = 35 ∷ (decimal (t * tick_us) ++ (10 ∷ []))

-- gate i has this value
abbrev pub value_text : ℕ → Bool → List ℕ
value_text i level = level_word level ++ (code_of i ++ (10 ∷ []))

-- gate i has this value now, and had that before
abbrev pub change_text : ℕ → Bool → Bool → List ℕ
change_text i true true = []
change_text i true false = value_text i false
change_text i false true = value_text i true
change_text i false false = []

-- every value at tick 0
unfoldable pub first_text : GateLevels → ℕ → List ℕ
first_text levels i = value_text i (levels i 0)

-- the changes from tick t to the next
unfoldable pub next_text : GateLevels → ℕ → ℕ → List ℕ
next_text levels t i = change_text i (levels i t) (levels i (suc t))

-- changes with their time before them, where there are any
abbrev pub timed_text : ℕ → ℕ → List ℕ → List ℕ
timed_text tick_us t [] = []
timed_text tick_us t (c ∷ changes) = time_text tick_us t ++ (c ∷ changes)

-- what changes after tick t, under the time of the next
unfoldable pub tick_text : ℕ → GateLevels → ℕ → ℕ → List ℕ
tick_text tick_us levels gates t =
    timed_text tick_us (suc t) (each_below gates (next_text levels t))

-- all values and changes, and the time at which the run ends
unfoldable pub changes_text : ℕ → ℕ → GateLevels → ℕ → List ℕ
changes_text tick_us horizon levels gates =
    time_text tick_us 0 ++ codes "$dumpvars\n" ++ each_below gates (first_text levels)
    ++ codes "$end\n"
    ++ each_below (horizon - 1) (tick_text tick_us levels gates)
    ++ time_text tick_us horizon

-- the dump of a line's net: who is played, the time scale, the variables, and the changes
unfoldable pub dump_text : List ℕ → List ℕ → Line → NetOf → GateLevels → List ℕ
dump_text timing script line net levels =
    codes "$comment timing " ++ timing ++ codes ", script " ++ script
    ++ codes " $end\n$timescale 1 us $end\n"
    ++ declarations line net
    ++ codes "$enddefinitions $end\n"
    ++ changes_text line.tick_us line.horizon levels (length net.gates)
