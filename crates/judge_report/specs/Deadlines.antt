-- The deadline and the margin of an obligation.
use Rattle.std.specs.Prelude.{ℕ, ℤ, pos, ◌-ℤ◌, ◌*ℤ◌, Option, None, Some, option_map}
use Rattle.model_line.specs.declared.script.Kind.TheVariants.{Internal, External}
use Rattle.model_line.specs.declared.script.Kind.{Kind}

-- an internal fault has a deadline, an external one has none
abbrev pub deadline_of : Kind → ℕ → Option ℕ
deadline_of Internal deadline = Some deadline
deadline_of External deadline = None

-- the deadline less the first tick of the trip's must rail, where there are both
abbrev pub margin_of : Kind → ℕ → Option ℕ → Option ℤ
margin_of Internal deadline None = None
margin_of Internal deadline (Some first) = Some (pos deadline -ℤ pos first)
margin_of External deadline first = None

-- the margin in microseconds
abbrev pub margin_us_of : Kind → ℕ → ℕ → Option ℕ → Option ℤ
margin_us_of kind deadline tick_us first =
    option_map (λ margin. margin *ℤ pos tick_us) (margin_of kind deadline first)
