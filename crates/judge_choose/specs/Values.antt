-- What a range answers of a setting, and the position to write.
use Rattle.std.specs.Prelude.{◌+◌, ◌-◌, ◌/◌, ◌&&◌, ◌||◌, ℕ, Bool, true, false, max, min}
use Rattle.std.specs.Prelude.{nat_le, if◌then◌else◌}
use Rattle.judge_choose.specs.{declared.range.Range.Range, declared.range.Bound.Bound}
use Rattle.judge_choose.specs.declared.range.Bound.TheVariants.{Limit, Lost, Open}
use Rattle.judge_choose.specs.declared.values.Answer.{Answer}
use Rattle.judge_choose.specs.declared.values.Answer.TheVariants.{Inside, Outside, Any}

abbrev pub is_limit : Bound → Bool
is_limit Limit = true
is_limit (Lost place) = false
is_limit Open = false

-- any where the range has no bound; else whether the declared position lies in it
abbrev pub answer_of : Range → ℕ → Answer
answer_of range declared =
    if is_limit range.below && is_limit range.above then Any
    else (if nat_le range.first declared && nat_le declared range.last then Inside else Outside)

abbrev pub middle_of : Range → ℕ
middle_of range = (range.first + range.last) / 2

-- the nearest position from one to another
abbrev pub nearest : ℕ → ℕ → ℕ → ℕ
nearest declared low high = min (max declared low) high

-- what has to be left at an end: nothing where it is no bound
abbrev pub room_at : Bound → ℕ → ℕ
room_at bound room = if is_limit bound then 0 else room

-- the middle where both ends are bounds, else the nearest to what is declared
abbrev pub value_of : Range → ℕ → ℕ
value_of range declared =
    if is_limit range.below || is_limit range.above
    then nearest declared range.first range.last else middle_of range

-- the nearest to what is declared that has so much room to each bound; the middle where none has
abbrev pub roomy_value_of : Range → ℕ → ℕ → ℕ
roomy_value_of range declared room =
    if nat_le (range.first + room_at range.below room + room_at range.above room) range.last
    then nearest declared (range.first + room_at range.below room)
    (range.last - room_at range.above room)
    else middle_of range
