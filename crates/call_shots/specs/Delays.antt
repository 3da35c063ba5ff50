-- The channels' delays of the choices that are played, as a table.
use Rattle.std.specs.Prelude.{◌+◌, ◌==◌, ◌++◌, ℕ, List, [], ◌∷◌, Option, None, Some, codes, decimal}
use Rattle.std.specs.Prelude.{get_or, length, slice_get, if◌then◌else◌}
use Rattle.std.specs.List.{flat_map}
use Rattle.csv.specs.Writing.{row_text, default_writer}
use Rattle.base_text.specs.lines.Milliseconds.{ticks_text}
use Rattle.model_history.specs.Each.{each_below}
use Rattle.model_line.specs.Channels.{from_of, to_of}
use Rattle.model_line.specs.{declared.line.Line.Line, declared.script.Script.Script}
use Rattle.model_line.specs.Parameters.{channel_count, delay_param}
use Rattle.model_line.specs.NamesByNumber.{script_name, terminal_name}
use Rattle.model_timing.specs.{Timing.TimingValues, declared.step.Step.Step}
use Rattle.call_verdicts.specs.declared.finding.Finding.{Finding}

abbrev pub delays_header : List (List ℕ)
delays_header =
    codes "shot" ∷ codes "script" ∷ codes "from" ∷ codes "to" ∷ codes "since_ms"
    ∷ codes "delay_ms" ∷ []

-- the fields of a delay: in the shot of this number, the script, the ends of the channel, from when on
-- it has this delay, and the delay
unfoldable pub delay_record : Line → List ℕ → ℕ → ℕ → ℕ → ℕ → List (List ℕ)
delay_record line name number c since delay =
    decimal number ∷ name ∷ terminal_name line (from_of line.channels.items c)
    ∷ terminal_name line (to_of line.channels.items c) ∷ ticks_text line.tick_us since
    ∷ ticks_text line.tick_us delay ∷ []

abbrev pub delay_row : Line → List ℕ → ℕ → ℕ → ℕ → ℕ → List ℕ
delay_row line name number c since delay =
    row_text default_writer (delay_record line name number c since delay)

-- that of a step, where it is one of this channel's delay
abbrev pub step_row : Line → List ℕ → ℕ → ℕ → Step ℕ → List ℕ
step_row line name number c step =
    if step.param == delay_param line c then delay_row line name number c step.from step.value
    else []

-- the delay of a channel from the start, and at each of its steps
unfoldable pub channel_rows : Line → List ℕ → ℕ → TimingValues → ℕ → List ℕ
channel_rows line name number timing c =
    delay_row line name number c 0 (get_or timing.values (delay_param line c) 0)
    ++ flat_map (step_row line name number c) timing.steps

-- those of all channels, at the choice of shot i
abbrev pub shot_rows : Line → List Script → ℕ → Option Finding → Option TimingValues → List ℕ
shot_rows line scripts i None timing = []
shot_rows line scripts i (Some shot) None = []
shot_rows line scripts i (Some shot) (Some timing) =
    each_below (channel_count line)
    (channel_rows line (script_name scripts shot.script) (i + 1) timing)

-- the header, and the delays of all shots
abbrev pub delays_text : Line → List Script → List Finding → List TimingValues → List ℕ
delays_text line scripts shots timings =
    row_text default_writer delays_header
    ++ each_below (length shots)
    (λ i. shot_rows line scripts i (slice_get shots i) (slice_get timings i))
