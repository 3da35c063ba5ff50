-- What is said of a trip.
use Rattle.std.specs.Prelude.{◌++◌, ◌==◌, ℕ, ℤ, pos, int_lt, unsigned_abs, Bool, List, [], codes}
use Rattle.std.specs.Prelude.{decimal, if◌then◌else◌, Option, Some, None}
use Rattle.draw_run.specs.layout.Words.{ticks_said}

-- the first ticks, of the may rail and of the must rail; in a play both are one
abbrev pub first_ticks_said : Bool → Option ℕ → Option ℕ → List ℕ
first_ticks_said is_play None must = []
first_ticks_said is_play (Some may) None = codes "may " ++ decimal may
first_ticks_said is_play (Some may) (Some must) =
    if may == must
    then (if is_play then codes "trips at " else codes "may and must ") ++ decimal must
    else codes "may " ++ decimal may ++ codes ", must " ++ decimal must

-- the margin, where there is a deadline: late where it is below 0
abbrev pub margin_said : Bool → ℕ → Option ℕ → Option ℤ → List ℕ
margin_said is_play tick_us None margin = []
margin_said is_play tick_us (Some deadline) (Some margin) =
    (if int_lt margin (pos 0) then codes "late by " else codes "margin ")
    ++ ticks_said tick_us (unsigned_abs margin)
margin_said is_play tick_us (Some deadline) None =
    if is_play then codes "does not trip" else codes "no tick by which it must trip"
