-- The worst place of a fault at a terminal.
use Rattle.std.specs.Prelude.{◌+◌, ◌-◌, ℕ, Bool, List, [], Option, None, Some, map}
use Rattle.std.specs.Prelude.{decimal, get_or, nat_le}
use Rattle.std.specs.List.{list_all, position_or_len}
use Rattle.model_line.specs.declared.script.Kind.{Kind}
use Rattle.model_line.specs.declared.script.Kind.TheVariants.{Internal, External}
use Rattle.call_verdicts.specs.declared.verdict.Verdict.{Verdict}

-- How far from the worst, in ticks. The worst internal fault is one that need not be tripped; then
-- the one with the least margin, which is counted from that of a trip at the horizon, so that it is
-- a number where the trip is late too. An external fault is the worse the sooner it has to be
-- tripped.
abbrev pub room_of : ℕ → Kind → ℕ → Option ℕ → ℕ
room_of horizon Internal deadline None = 0
room_of horizon Internal deadline (Some first) = deadline + horizon + 1 - first
room_of horizon External deadline None = horizon
room_of horizon External deadline (Some first) = first

abbrev pub room : ℕ → Verdict → ℕ
room horizon v = room_of horizon v.kind v.deadline v.first_must

-- none of these is worse
abbrev pub is_worst : ℕ → List Verdict → Verdict → Bool
is_worst horizon vs v = list_all (λ other. nat_le (room horizon v) (room horizon other)) vs

-- the first of the worst
abbrev pub worst_place : ℕ → List Verdict → ℕ
worst_place horizon vs = position_or_len (is_worst horizon vs) vs

-- its number, counted from 1; none of an external fault that need not be tripped
abbrev pub number_of : Kind → Option ℕ → ℕ → List ℕ
number_of Internal first place = decimal (place + 1)
number_of External None place = []
number_of External (Some first) place = decimal (place + 1)

abbrev pub place_text : List Verdict → ℕ → List ℕ
place_text vs place = get_or (map (λ v. number_of v.kind v.first_must place) vs) place []
