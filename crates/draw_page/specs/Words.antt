-- Times and answers in words.
use Rattle.std.specs.Prelude.{◌-◌, ◌==◌, ◌++◌, ℕ, List, [], ◌∷◌, Option, None, Some}
use Rattle.std.specs.Prelude.{codes, decimal, nat_le, if◌then◌else◌}
use Rattle.base_text.specs.lines.Milliseconds as milliseconds
use Rattle.draw_page.specs.declared.page.{Means.Means, Verdict.Verdict}
use Rattle.draw_page.specs.declared.page.Means.TheVariants as means

-- a text with these pieces behind it
abbrev pub with_pieces : List ℕ → List (List ℕ) → List ℕ
with_pieces text [] = text
with_pieces text (piece ∷ rest) = with_pieces (text ++ piece) rest

-- ---- times

abbrev pub number_said : ℕ → List ℕ
number_said n = decimal n

-- ticks in milliseconds
unfoldable pub ticks_text : ℕ → ℕ → List ℕ
ticks_text tick_us t = milliseconds.ticks_text tick_us t

abbrev pub time_said : ℕ → ℕ → List ℕ
time_said tick_us t = ticks_text tick_us t ++ codes " ms"

-- an interval, one time where both ends are the same
abbrev pub interval_said : ℕ → ℕ → ℕ → List ℕ
interval_said tick_us low high =
    if low == high then time_said tick_us low
    else ticks_text tick_us low ++ codes " to " ++ time_said tick_us high

-- when a trip may come first, and when it must have
abbrev pub trip_said : ℕ → Option ℕ → Option ℕ → List ℕ
trip_said tick_us None must = codes "none"
trip_said tick_us (Some may) None = codes "from " ++ time_said tick_us may
trip_said tick_us (Some may) (Some must) = interval_said tick_us may must

-- the deadline less when the trip must have come, below 0 where it is late
abbrev pub margin_of : ℕ → ℕ → ℕ → List ℕ
margin_of tick_us deadline must =
    if nat_le must deadline then time_said tick_us (deadline - must)
    else codes "-" ++ time_said tick_us (must - deadline)

abbrev pub spare_said : ℕ → Option ℕ → List ℕ
spare_said tick_us None = []
spare_said tick_us (Some spare) = time_said tick_us spare

-- of a fault with a deadline its margin, of another what it has to spare; nothing where that is not known
abbrev pub left_of : ℕ → Option ℕ → Option ℕ → Option ℕ → List ℕ
left_of tick_us None must spare = spare_said tick_us spare
left_of tick_us (Some deadline) None spare = []
left_of tick_us (Some deadline) (Some must) spare = margin_of tick_us deadline must

abbrev pub left_said : ℕ → Verdict → List ℕ
left_said tick_us v = left_of tick_us v.deadline v.must v.spare

abbrev pub deadline_said : ℕ → Option ℕ → List ℕ
deadline_said tick_us None = codes "never"
deadline_said tick_us (Some deadline) = time_said tick_us deadline

-- ---- answers

abbrev pub by_said : Means → List ℕ
by_said means.Rules = codes "interval rules"
by_said means.Candidate = codes "a timing tried"
by_said means.Corner = codes "the worst corner"
by_said means.Parts = codes "parts of the intervals"
by_said means.Cases = codes "cases of echoes"
