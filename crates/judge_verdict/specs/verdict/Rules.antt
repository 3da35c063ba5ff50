-- The rule that is answered, and the deadlines that it asks for.
use Rattle.std.specs.Prelude.{◌<◌, ℕ, suc, Bool, not, if◌then◌else◌}
use Rattle.model_line.specs.declared.script.Kind.TheVariants.{Internal, External}
use Rattle.model_line.specs.declared.script.Kind.{Kind}
use Rattle.model_logic.specs.Rule as of_line
use Rattle.judge_verdict.specs.declared.verdict.rule.Rule.{Rule}
use Rattle.judge_verdict.specs.declared.verdict.rule.Rule.TheVariants.{Held, Broken, Unknown}

-- the rule of the model that an answer is
abbrev pub rule_named : Rule → of_line.Rule
rule_named Held = of_line.Held
rule_named Broken = of_line.Broken
rule_named Unknown = of_line.Unknown

-- an internal deadline is below the horizon
abbrev pub IsDeadlineWithin : Kind → ℕ → ℕ → Type 0
IsDeadlineWithin Internal deadline horizon = deadline < horizon
IsDeadlineWithin External deadline horizon = Unit {0}

-- how many ticks an obligation looks at: those up to the deadline, or all
abbrev pub counted_ticks : Kind → ℕ → ℕ → ℕ
counted_ticks Internal deadline horizon = suc deadline
counted_ticks External deadline horizon = horizon

-- the rule, by whether the must rail and the may rail of the trip are true at some of these ticks
abbrev pub rule_from : Kind → Bool → Bool → of_line.Rule
rule_from Internal must may =
    if must then of_line.Held else (if not may then of_line.Broken else of_line.Unknown)
rule_from External must may =
    if not may then of_line.Held else (if must then of_line.Broken else of_line.Unknown)
