-- Where a fault is not held at a terminal, as stretches of places.
use Rattle.std.specs.Prelude.{◌+◌, ◌-◌, ◌++◌, ◌&&◌, ◌||◌, ℕ, zero, suc, Bool, true, false, List}
use Rattle.std.specs.Prelude.{[], ◌∷◌, map, not, decimal, get_or, nat_eq, take, if◌then◌else◌}
use Rattle.std.specs.List.{list_any}
use Rattle.file_study.specs.declared.sweeps.group.Group.{Group}
use Rattle.call_verdicts.specs.Records.{times_text}
use Rattle.call_verdicts.specs.declared.finding.Standing.{Standing}
use Rattle.call_verdicts.specs.declared.finding.Standing.TheVariants.{Held, Fails, Open}
use Rattle.call_verdicts.specs.declared.stretches.Mark.{Mark}
use Rattle.call_verdicts.specs.declared.stretches.Mark.TheVariants.{First, Next, Last, Inside}
use Rattle.call_verdicts.specs.declared.verdict.Verdict.{Verdict}

abbrev pub holds_so : Standing → Bool
holds_so Held = true
holds_so (Fails every) = false
holds_so Open = false

abbrev pub is_held : Verdict → Bool
is_held v = holds_so v.standing

abbrev pub is_lost : Verdict → Bool
is_lost v = not (is_held v)

-- whether it is not held at a place, counted from 0; it is behind the last
abbrev pub lost_at : List Verdict → ℕ → Bool
lost_at vs p = get_or (map is_lost vs) p false

-- a stretch begins at a place that is lost behind one that is not, and ends before one that is not
abbrev pub begins : List Verdict → ℕ → Bool
begins vs p = lost_at vs p && (nat_eq p 0 || not (lost_at vs (p - 1)))

abbrev pub ends : List Verdict → ℕ → Bool
ends vs p = lost_at vs p && not (lost_at vs (p + 1))

-- what a place is: the first of the first stretch or of a further one, the last of one with others
-- before it, or none of these
abbrev pub mark_of : List Verdict → ℕ → Mark
mark_of vs p =
    if begins vs p then (if list_any is_lost (take p vs) then Next else First)
    else if ends vs p then Last
    else Inside

-- what is written of it: `;` between stretches, and `..` between the first and the last of one
abbrev pub mark_text : Mark → List ℕ → List ℕ
mark_text First label = label
mark_text Next label = 59 ∷ label
mark_text Last label = 46 ∷ 46 ∷ label
mark_text Inside label = []

-- the stretches among the first n places, by labels of their first and last ones
abbrev pub stretches : List Verdict → (ℕ → List ℕ) → ℕ → List ℕ
stretches vs label zero = []
stretches vs label (suc n) = stretches vs label n ++ mark_text (mark_of vs n) (label n)

-- the number of a place, counted from 1
abbrev pub place_label : ℕ → List ℕ
place_label p = decimal (p + 1)

-- the values of the swept times there
abbrev pub values_label : ℕ → Group → ℕ → List ℕ
values_label tick_us group p = times_text tick_us (get_or (map (λ v. v.items) group.swept.items) p [])
