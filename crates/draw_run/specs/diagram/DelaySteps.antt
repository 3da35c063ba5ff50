-- The ticks of a row at which the delay of its channel has a step.
use Rattle.std.specs.Prelude.{◌==◌, ◌&&◌, ℕ, List, [], ◌∷◌, nat_lt, if◌then◌else◌}
use Rattle.std.specs.List.{flat_map}
use Rattle.model_line.specs.{declared.line.Line.Line, Parameters.delay_param}
use Rattle.model_line.specs.Parameters.{channel_count}
use Rattle.model_timing.specs.declared.step.Step.{Step}
use Rattle.model_plain.specs.declared.role.Role.{Role}
use Rattle.model_plain.specs.declared.role.Role.TheVariants as role
use Rattle.draw_run.specs.declared.diagram.trace.Trace.{Trace}
use Rattle.draw_run.specs.declared.diagram.trace.Trace.TheVariants.{Seen, Lost, Logic, Key, Trip}

-- the tick of a step, if it is one of this parameter below the horizon
abbrev pub tick_of_step : ℕ → ℕ → Step ℕ → List ℕ
tick_of_step param horizon step =
    if (step.param == param) && nat_lt step.from horizon then step.from ∷ [] else []

-- the ticks of a run at which the delay of channel c of the line has a step
abbrev pub delay_steps : Line → List (Step ℕ) → ℕ → List ℕ
delay_steps line steps c =
    if nat_lt c (channel_count line)
    then flat_map (tick_of_step (delay_param line c) line.horizon) steps else []

-- the marks of a gate: where it is what is received over a channel, the steps of the channel's delay
abbrev pub role_marks : Line → List (Step ℕ) → Role → List ℕ
role_marks line steps (role.Seen place) = []
role_marks line steps (role.Timed place) = []
role_marks line steps (role.Lost c) = []
role_marks line steps (role.Raw c) = []
role_marks line steps (role.Received c) = delay_steps line steps c
role_marks line steps (role.Window c) = []
role_marks line steps (role.Lockout c) = []
role_marks line steps (role.Guard k) = []
role_marks line steps (role.Coordination k) = []
role_marks line steps (role.Echo k) = []
role_marks line steps (role.Permission k) = []
role_marks line steps (role.AnyReceived k) = []

-- the marks of a row
abbrev pub marks_of : Line → List (Step ℕ) → Trace → List ℕ
marks_of line steps (Seen place) = []
marks_of line steps (Lost c) = []
marks_of line steps (Logic what gate) = role_marks line steps what
marks_of line steps (Key k) = []
marks_of line steps (Trip k) = []
