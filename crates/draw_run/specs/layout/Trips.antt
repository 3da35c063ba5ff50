-- What is drawn of a trip: its first ticks and its rule at the right of its bars, its margin below.
use Rattle.std.specs.Prelude.{◌++◌, ◌-◌, ℕ, Bool, true, false, List, [], ◌∷◌, min, max, Option}
use Rattle.std.specs.Prelude.{Some, None, slice_get}
use Rattle.model_line.specs.declared.line.Line.{Line}
use Rattle.judge_verdict.specs.{declared.verdict.rule.Rule.Rule, verdict.Rules.rule_named}
use Rattle.judge_verdict.specs.declared.verdict.rule.Rule.TheVariants as rule
use Rattle.draw_run.specs.{declared.diagram.diagram.Diagram.Diagram, declared.diagram.times.TripTimes.TripTimes}
use Rattle.draw_run.specs.declared.layout.scale.Scale.{Scale}
use Rattle.judge_report.specs.ReportText.{rule_word}
use Rattle.draw_shapes.specs.declared.class.Class.{Class}
use Rattle.draw_shapes.specs.declared.class.Class.TheVariants as class
use Rattle.draw_shapes.specs.{Seen.SeenFigure}
use Rattle.draw_shapes.specs.Seen as seen
use Rattle.draw_run.specs.{layout.Said.first_ticks_said, layout.Said.margin_said, layout.Scale.end_of, layout.Scale.more}

-- a play has no rules
abbrev pub no_rules : List Rule → Bool
no_rules [] = true
no_rules (r ∷ rest) = false

-- words at the right of the axis, if there are any
abbrev pub told : ℕ → List ℕ → List SeenFigure
told y [] = []
told y (c ∷ rest) = seen.text class.Begin 7650 y (c ∷ rest) ∷ []

-- a line between two places below the base, with a stroke at each end
abbrev pub span : ℕ → ℕ → ℕ → List SeenFigure
span base left right =
    seen.line class.Margin left (more base 90) right (more base 90)
    ∷ (seen.line class.Margin left (more base 50) left (more base 130)
    ∷ (seen.line class.Margin right (more base 50) right (more base 130) ∷ []))

-- the margin: from the end of the first tick of the trip to the end of the deadline's
abbrev pub margin_span : Scale → ℕ → Option ℕ → Option ℕ → List SeenFigure
margin_span scale base (Some deadline) (Some first) =
    span base (min (end_of scale deadline) (end_of scale first))
    (max (end_of scale deadline) (end_of scale first))
margin_span scale base (Some deadline) None = []
margin_span scale base None (Some first) = []
margin_span scale base None None = []

abbrev pub times_drawn : Line → Scale → Diagram → ℕ → Option TripTimes → List SeenFigure
times_drawn of scale diagram base None = []
times_drawn of scale diagram base (Some times) =
    margin_span scale base diagram.deadline times.first_must
    ++ told (base - 10)
    (first_ticks_said (no_rules diagram.rules.items) times.first_may times.first_must)
    ++ told (more base 140)
    (margin_said (no_rules diagram.rules.items) of.tick_us diagram.deadline times.margin)

abbrev pub rule_class : Rule → Class
rule_class rule.Held = class.Held
rule_class rule.Broken = class.Broken
rule_class rule.Unknown = class.Unknown

-- the rule, in a column of its own
abbrev pub rule_drawn : ℕ → Option Rule → List SeenFigure
rule_drawn base None = []
rule_drawn base (Some r) =
    seen.text (rule_class r) 9100 (base - 10) (rule_word (rule_named r)) ∷ []

-- what is drawn of terminal k's trip, whose bars stand on the base
abbrev pub trip_drawn : Line → Scale → Diagram → ℕ → ℕ → List SeenFigure
trip_drawn of scale diagram k base =
    times_drawn of scale diagram base (slice_get diagram.trips.items k)
    ++ rule_drawn base (slice_get diagram.rules.items k)
