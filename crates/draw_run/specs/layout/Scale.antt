-- Where ticks lie.
use Rattle.std.specs.Prelude.{◌+◌, ◌-◌, ◌*◌, ◌/◌, ◌%◌, ◌==◌, ◌^◌, ℕ, Bool, List, [], ◌∷◌, min}
use Rattle.std.specs.Prelude.{decimal, length, nat_le, if◌then◌else◌}
use Rattle.draw_run.specs.declared.diagram.window.Window.{Window}
use Rattle.draw_run.specs.declared.layout.scale.Scale.{Scale}

-- how long the axis is: it ends at 7500
abbrev pub length_of : Scale → ℕ
length_of scale = 7500 - scale.left

abbrev pub ticks_shown : Window → ℕ
ticks_shown window = window.last - window.first + 1

-- where tick t begins: each tick that is shown has as much of the axis
abbrev pub place_of : Scale → ℕ → ℕ
place_of scale t =
    scale.left
    + min ((t - scale.window.first) * length_of scale / ticks_shown scale.window) (length_of scale)

-- so much more, up to what 32 bits hold
abbrev pub more : ℕ → ℕ → ℕ
more length by = min (length + by) (2 ^ 32 - 1)

-- where tick t ends
abbrev pub end_of : Scale → ℕ → ℕ
end_of scale t = place_of scale (more t 1)

-- how many letters the milliseconds of a tick that is shown have at most: with parts of a
-- millisecond a point and three digits more
abbrev pub letters_of : Window → ℕ → ℕ
letters_of window tick_us =
    length (decimal (window.last * tick_us / 1000)) + (if tick_us % 1000 == 0 then 0 else 4)

-- two numbers stay apart at this step: a letter takes 80, and 160 lie between two numbers
abbrev pub has_room : Scale → ℕ → ℕ → Bool
has_room scale tick_us step =
    nat_le ((letters_of scale.window tick_us * 80 + 160) * ticks_shown scale.window)
    (step * length_of scale)

-- the first of these steps at which numbers stay apart
abbrev pub first_with_room : Scale → ℕ → List ℕ → ℕ
first_with_room scale tick_us [] = 10000
first_with_room scale tick_us (step ∷ steps) =
    if has_room scale tick_us step then step else first_with_room scale tick_us steps

-- how many ticks lie from one number of the axis to the next
unfoldable pub step_of : Scale → ℕ → ℕ
step_of scale tick_us =
    first_with_room scale tick_us
    (1 ∷ (2 ∷ (5 ∷ (10 ∷ (20 ∷ (50 ∷ (100 ∷ (200 ∷ (500 ∷ (1000 ∷ (2000 ∷ (5000 ∷ []))))))))))))
