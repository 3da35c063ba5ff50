-- Steps of the loops that draw a fault.
use Rattle.std.proofs.Common.{◌≡◌, ◌≤◌, ◌<◌, ◌+◌, ◌++◌, ℕ, List, [], ◌∷◌, length, refl, sym, ap, subst, arith, ◌∙◌}
use Rattle.std.proofs.Common.{Bool, true, false, suc}
use Rattle.std.proofs.lemmas.List.{length-append, take_more}
use Rattle.std.proofs.lemmas.List.Sums.{sum_by-cons}
use Rattle.std.specs.Prelude.{nat_eq, max, map, sum, get_or, take, IsTrue}
use Rattle.std.specs.List.{list_all}
use Rattle.model_borders.specs.declared.script.Border.{Border}
use Rattle.file_study.specs.declared.study.stage.Shown.{Shown}
use Rattle.file_study.specs.study.Faults.{FaultValues, StageValues}
use Rattle.file_study.specs.sweeps.Refusals.{greatest, horizon_of}
use Rattle.file_borders.specs.declared.drawn.At.{At}
use Rattle.file_borders.specs.Drawn.{AreBorders, Drawing, IsBorder, behind, borders_of, drawn_from, first_of}
use Rattle.file_borders.specs.Drawn.{later_in, least_sum, with_all, with_shown, with_stage}
use Rattle.file_borders.specs.Loose.{comes_in_time}
use Rattle.file_borders.proofs.Spans.{both_of}

-- how many borders there are with what a stage shows
many_case : (at : At) (from to : ℕ) (shown : Shown) (d : Drawing) (zero : Bool) → nat_eq shown.after 0 ≡ zero
    → length (with_shown at from to shown d).borders ≡ length d.borders + later_in (shown ∷ [])
many_case at from to shown d true is = grind (arith, is)
many_case at from to shown d false is = grind (arith, is, length-append)

later_more : (shown : Shown) (more : List Shown) (zero : Bool) → nat_eq shown.after 0 ≡ zero
    → later_in (shown ∷ more) ≡ later_in (shown ∷ []) + later_in more
later_more shown more true is = grind (arith, is)
later_more shown more false is = grind (arith, is)

many_all : (at : At) (from to : ℕ) (shows : List Shown) (d : Drawing)
    → length (with_all at from to shows d).borders ≡ length d.borders + later_in shows
many_all at from to [] d = omega arith
many_all at from to (shown ∷ more) d =
    let one = many_case at from to shown d (nat_eq shown.after 0) refl in
    let rest = many_all at from to more (with_shown at from to shown d) in
    let both = later_more shown more (nat_eq shown.after 0) refl in
    omega (arith, one, rest, both)

many_stage : (at : At) (from : ℕ) (s : StageValues) (d : Drawing)
    → length (with_stage at from s d).borders ≡ length d.borders + (later_in s.shows + 1)
many_stage at from s d =
    let one : length (d.borders ++ behind at s ∷ []) ≡ length d.borders + 1 = grind (arith, length-append) in
    let rest = many_all at from (length d.borders) s.shows
    (record { borders = d.borders ++ behind at s ∷ []; spans = d.spans }) in
    omega (arith, one, rest)

behind_case : (at : At) (s : StageValues) (between : Bool) → s.between ≡ between
    → ((behind at s).ticks ≤ at.ticks + first_of s) × ((behind at s).lengths ≤ at.lengths + 1)
behind_case at s true is = (grind (arith, is), grind (arith, is))
behind_case at s false is = (grind (arith, is), grind (arith, is))

module _ (at at_end : At) (from to : ℕ) (d new end : Drawing) (s : StageValues) (more all : List StageValues)
    (first : all ≡ s ∷ more) (is_end : at_end ≡ behind at s) (is_to : to ≡ length d.borders)
    (is_new : new ≡ with_stage at from s d) where
  pub drawn_step : drawn_from at from all d ≡ end → drawn_from at_end to more new ≡ end
  drawn_step drawn =
      ap (λ (a : At). drawn_from a to more new) is_end
      ∙ ap (λ (b : ℕ). drawn_from (behind at s) b more new) is_to
      ∙ ap (λ (n : Drawing). drawn_from (behind at s) (length d.borders) more n) is_new
      ∙ sym (ap (λ (l : List StageValues). drawn_from at from l d) first)
      ∙ drawn

  pub ticks_step : at.ticks + least_sum all ≤ 4000 → at_end.ticks + least_sum more ≤ 4000
  ticks_step le =
      let sums : least_sum all ≡ first_of s + least_sum more = ap least_sum first in
      let ends : at_end.ticks ≡ (behind at s).ticks = ap (λ (a : At). a.ticks) is_end in
      omega (arith, (behind_case at s s.between refl).0, sums, ends, le)

  pub many_step : length d.borders + borders_of all ≤ 100 → length new.borders + borders_of more ≤ 100
  many_step le =
      let sums : borders_of all ≡ (later_in s.shows + 1) + borders_of more = ap borders_of first in
      let many : length new.borders ≡ length (with_stage at from s d).borders =
      ap (λ (n : Drawing). length n.borders) is_new in
      omega (arith, many_stage at from s d, sums, many, le)

  pub lengths_step : at.lengths + 1 ≤ length d.borders → at_end.lengths + 1 ≤ length new.borders
  lengths_step le =
      let many : length new.borders ≡ length (with_stage at from s d).borders =
      ap (λ (n : Drawing). length n.borders) is_new in
      let ends : at_end.lengths ≡ (behind at s).lengths = ap (λ (a : At). a.lengths) is_end in
      omega (arith, (behind_case at s s.between refl).1, many_stage at from s d, many, ends, le)

  pub shown_step : IsTrue (list_all comes_in_time all) → IsTrue (list_all comes_in_time more)
  shown_step in_time =
      (both_of (comes_in_time s) (list_all comes_in_time more)
      (subst (λ (l : List StageValues). list_all comes_in_time l ≡ true) first in_time)).1

-- ---- borders

borders_more : (ats : List At) (borders : List Border) (at : At) (border : Border) → AreBorders ats borders
    → IsBorder at border → AreBorders (ats ++ at ∷ []) (borders ++ border ∷ [])
borders_more [] [] at border are is = (is, tt)
borders_more [] (b ∷ borders) at border are is = absurd are
borders_more (a ∷ ats) [] at border are is = absurd are
borders_more (a ∷ ats) (b ∷ borders) at border are is =
    (are.0, borders_more ats borders at border are.1 is)

pub borders_step : (ats : List At) (old new : List Border) (none : At) (border : Border) (i : ℕ) → i < length ats
    → AreBorders (take i ats) old → IsBorder (get_or ats i none) border → new ≡ old ++ border ∷ []
    → AreBorders (take (i + 1) ats) new
borders_step ats old new none border i lt are own made =
    subst (λ (l : List At). AreBorders l new) (sym (take_more ats i none lt))
    (subst (λ (l : List Border). AreBorders (take i ats ++ get_or ats i none ∷ []) l) (sym made)
    (borders_more (take i ats) old (get_or ats i none) border are own))

-- ---- a fault

least_greatest : (l : List ℕ) → get_or l 0 0 ≤ greatest l
least_greatest [] = omega arith
least_greatest (n ∷ more) = grind arith

abbrev pub longest : List StageValues → ℕ
longest stages = sum (map (λ s. greatest s.lasts) stages)

pub least_below : (stages : List StageValues) → least_sum stages ≤ longest stages
least_below [] = omega arith
least_below (s ∷ stages) =
    let step : longest (s ∷ stages) ≡ greatest s.lasts + longest stages =
    sum_by-cons (λ (n : ℕ). n) (greatest s.lasts) (map (λ (t : StageValues). greatest t.lasts) stages) in
    omega (arith, least_greatest s.lasts, least_below stages, step)

pub first_below : (l : List ℕ) → get_or l 0 0 ≤ greatest l
first_below = least_greatest

pub most : (a b n : ℕ) → max a b ≤ n → (a ≤ n) × (b ≤ n)
most a b n le = (omega (arith, le), omega (arith, le))

-- the ticks of a fault whose horizon is small
pub few_ticks : (f : FaultValues) → horizon_of f ≤ 4000
    → (get_or f.start 0 0 + least_sum f.stages ≤ 4000) × (get_or f.trip_within 0 0 ≤ 4000)
few_ticks f le =
    let two = most (greatest f.start + longest f.stages) (greatest f.start + greatest f.trip_within + 1) 4000 le in (
      omega (arith, two.0, least_greatest f.start, least_below f.stages),
      omega (arith, two.1, least_greatest f.trip_within),
    )

-- how many borders there are
pub many_drawn : (stages : List StageValues) (at : At) (from : ℕ) (d : Drawing)
    → length (drawn_from at from stages d).borders ≡ length d.borders + borders_of stages
many_drawn [] at from d = omega arith
many_drawn (s ∷ stages) at from d =
    let rest = many_drawn stages (behind at s) (length d.borders) (with_stage at from s d) in
    omega (arith, rest, many_stage at from s d)

pub as_many : (ats : List At) (borders : List Border) → AreBorders ats borders → length borders ≡ length ats
as_many [] [] are = refl
as_many [] (b ∷ borders) are = absurd are
as_many (a ∷ ats) [] are = absurd are
as_many (a ∷ ats) (b ∷ borders) are = ap suc (as_many ats borders are.1)
