-- The borders and spans of a fault whose stages last for times that are not known.
use Rattle.std.specs.Prelude.{◌≡◌, ◌+◌, ◌++◌, ◌==◌, ◌&&◌, ℕ, Bool, List, [], ◌∷◌, length, get_or, map, replicate, if◌then◌else◌}
use Rattle.std.specs.List.{list_any}
use Rattle.model_history.specs.Rails.{Ends}
use Rattle.model_line.specs.contracts.script.WhatPartialEq.TheImpl.{eq-value as what_eq}
use Rattle.run_signal.specs.Spans.{ends_of}
use Rattle.model_borders.specs.declared.script.{Border.Border, LooseSpan.LooseSpan}
use Rattle.file_study.specs.declared.study.stage.Shown.{Shown}
use Rattle.file_study.specs.study.Faults.{StageValues}
use Rattle.file_borders.specs.declared.drawn.{At.At, Drawn.Drawn}

-- the first number of ticks that a stage names: how long it lasts, or at least
abbrev pub first_of : StageValues → ℕ
first_of s = get_or s.lasts 0 0

-- an interval for each stage that lasts for one, in their order
abbrev pub part_of : List StageValues → List Ends
part_of [] = []
part_of (s ∷ stages) =
    if s.between then ends_of (first_of s) (get_or s.lasts 1 0) ∷ part_of stages else part_of stages

-- the end of a stage that begins there: so many ticks behind it, or the next of the times that are not known
abbrev pub behind : At → StageValues → At
behind at s =
    if s.between then record { ticks = at.ticks; lengths = at.lengths + 1 }
    else record { ticks = at.ticks + first_of s; lengths = at.lengths }

-- borders by where they stand, and spans by the numbers of their borders
pub record Drawing : Type 0 where
  pub borders : List At
  pub spans : List LooseSpan

abbrev pub drawing : Drawn → Drawing
drawing d = record { borders = d.borders.items; spans = d.spans.items }

-- the new span begins where the old one ends, and is of the same
abbrev pub goes_on : LooseSpan → LooseSpan → Bool
goes_on new old = what_eq.it old.what new.what && (old.to == new.from)

abbrev pub extended : LooseSpan → LooseSpan → LooseSpan
extended new old = if goes_on new old then record old { to = new.to } else old

-- with one more, by which those are extended that it goes on
abbrev pub joined : LooseSpan → List LooseSpan → List LooseSpan
joined new spans =
    if list_any (goes_on new) spans then map (extended new) spans else spans ++ new ∷ []

-- what a stage shows from its begin, or from so many ticks later, to its end
abbrev pub with_shown : At → ℕ → ℕ → Shown → Drawing → Drawing
with_shown at from to shown d =
    if shown.after == 0
    then record {
      borders = d.borders;
      spans = joined (record { what = shown.what; from = from; to = to }) d.spans;
    }
    else record {
      borders = d.borders ++ record { ticks = at.ticks + shown.after; lengths = at.lengths } ∷ [];
      spans = joined (record { what = shown.what; from = length d.borders; to = to }) d.spans;
    }

abbrev pub with_all : At → ℕ → ℕ → List Shown → Drawing → Drawing
with_all at from to [] d = d
with_all at from to (shown ∷ more) d = with_all at from to more (with_shown at from to shown d)

-- the end of a stage is the next border
abbrev pub with_stage : At → ℕ → StageValues → Drawing → Drawing
with_stage at from s d =
    with_all at from (length d.borders) s.shows
    (record { borders = d.borders ++ behind at s ∷ []; spans = d.spans })

-- one stage after another, the first of which begins there, at the border of that number
abbrev pub drawn_from : At → ℕ → List StageValues → Drawing → Drawing
drawn_from at from [] d = d
drawn_from at from (s ∷ ss) d = drawn_from (behind at s) (length d.borders) ss (with_stage at from s d)

-- those of a fault: its first border is its start
abbrev pub drawing_of : ℕ → List StageValues → Drawing
drawing_of start stages =
    drawn_from (record { ticks = start; lengths = 0 }) 0 stages
    (record { borders = record { ticks = start; lengths = 0 } ∷ []; spans = [] })

-- how many borders what a stage shows has of its own: those of elements that come later than it begins
abbrev pub later_in : List Shown → ℕ
later_in [] = 0
later_in (shown ∷ more) = if shown.after == 0 then later_in more else later_in more + 1

-- how many borders stages have, beside the begin of the first
abbrev pub borders_of : List StageValues → ℕ
borders_of [] = 0
borders_of (s ∷ stages) = (later_in s.shows + 1) + borders_of stages

-- how long stages last at least
abbrev pub least_sum : List StageValues → ℕ
least_sum [] = 0
least_sum (s ∷ stages) = first_of s + least_sum stages

-- a border: so many ticks behind tick 0, and each of the first so many times that are not known once
pub record IsBorder (at : At) (border : Border) : Type 0 where
  pub fixed : border.fixed ≡ at.ticks
  pub times : border.times.items ≡ replicate at.lengths 1

abbrev pub AreBorders : List At → List Border → Type 0
AreBorders [] [] = Unit {0}
AreBorders [] (border ∷ borders) = ⊥
AreBorders (at ∷ ats) [] = ⊥
AreBorders (at ∷ ats) (border ∷ borders) = IsBorder at border × AreBorders ats borders
