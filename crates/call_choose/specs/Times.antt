-- Times of a record, in milliseconds.
use Rattle.std.specs.Prelude.{◌-◌, ◌==◌, ◌++◌, ℕ, List, [], ◌∷◌, codes, nat_le}
use Rattle.std.specs.Prelude.{if◌then◌else◌}
use Rattle.base_text.specs.lines.Milliseconds.{ticks_text}
use Rattle.judge_choose.specs.{declared.range.Bound.Bound, Values.is_limit}

-- an interval; one time where both ends are it
abbrev pub interval_text : ℕ → ℕ → ℕ → List ℕ
interval_text tick_us least greatest =
    ticks_text tick_us least
    ++ (if least == greatest then [] else codes " .. " ++ ticks_text tick_us greatest)

-- where a range ends; nothing where that is no bound
abbrev pub end_text : Bound → ℕ → ℕ → List ℕ
end_text bound tick_us t = if is_limit bound then [] else ticks_text tick_us t

-- how far one time is behind the other; with `-` how far before it
abbrev pub difference_text : ℕ → ℕ → ℕ → List ℕ
difference_text tick_us from down_to =
    if nat_le down_to from then ticks_text tick_us (from - down_to)
    else 45 ∷ ticks_text tick_us (down_to - from)

-- the same at a bound
abbrev pub reach_text : Bound → ℕ → ℕ → ℕ → List ℕ
reach_text bound tick_us from down_to =
    if is_limit bound then [] else difference_text tick_us from down_to
