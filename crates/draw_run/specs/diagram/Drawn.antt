-- Which rows are drawn.
use Rattle.std.specs.Prelude.{◌||◌, ℕ, Bool, true, false, not, List, [], ◌∷◌}
use Rattle.std.specs.List.{list_any}
use Rattle.run_signal.specs.declared.tern.Tern.{Tern}
use Rattle.run_signal.specs.declared.tern.Tern.TheVariants as tern
use Rattle.draw_shapes.specs.declared.rows.Rows.{Rows}
use Rattle.draw_run.specs.declared.diagram.{stretch.Stretch.Stretch, trace.Trace.Trace}
use Rattle.draw_shapes.specs.declared.rows.Rows.TheVariants as rows
use Rattle.draw_run.specs.declared.diagram.trace.Trace.TheVariants.{Seen, Lost, Logic, Key, Trip}

abbrev pub is_off : Tern → Bool
is_off tern.Zero = true
is_off tern.One = false
is_off tern.Unknown = false

-- it is on or open at some tick
abbrev pub is_shown : Stretch → Bool
is_shown s = not (is_off s.value)

abbrev pub is_ever_shown : List Stretch → Bool
is_ever_shown stretches = list_any is_shown stretches

-- it changes at some tick
abbrev pub changes : List Stretch → Bool
changes [] = false
changes (s ∷ []) = false
changes (s ∷ (next ∷ rest)) = true

abbrev pub has_marks : List ℕ → Bool
has_marks [] = false
has_marks (t ∷ rest) = true

-- keys and trips tell always, what the script shows if it is on at some tick, a gate of the logic
-- if it changes or has a mark
abbrev pub tells : Trace → List Stretch → List ℕ → Bool
tells (Seen place) stretches marks = is_ever_shown stretches
tells (Lost c) stretches marks = is_ever_shown stretches
tells (Logic what gate) stretches marks = changes stretches || has_marks marks
tells (Key k) stretches marks = true
tells (Trip k) stretches marks = true

-- the rows that tell, or all
abbrev pub is_drawn : Rows → Trace → List Stretch → List ℕ → Bool
is_drawn rows.Changing trace stretches marks = tells trace stretches marks
is_drawn rows.All trace stretches marks = true
