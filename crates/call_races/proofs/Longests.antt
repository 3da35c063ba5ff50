-- The first of the longest trips, found place by place.
use Rattle.std.proofs.Common.{◌≡◌, ℕ, ◌+◌, ◌<◌, ◌≤◌, List, length, get_or, subst, sym, arith}
use Rattle.std.proofs.Common.{⊎_elim}
use Rattle.std.specs.Prelude.{nat_le, Option, None}
use Rattle.std.proofs.lemmas.Bool.{cases_lt, le-leb, lt-leb}
use Rattle.std.proofs.lemmas.List.{get_or_default}
use Rattle.std.proofs.lemmas.List.Folds.{list_all_at}
use Rattle.std.proofs.lemmas.List.Sums.{list_all-from_AllPass, position_or_len_is}
use Rattle.judge_races.specs.declared.stretch.Stretch.{Stretch}
use Rattle.call_races.specs.Trips.{is_longest, longest_place, ticks_of}

-- of the first i trips that at b is the first of the longest
pub record IsLongestOf (trips : List (Option Stretch)) (i b : ℕ) : Type 0 where
  pub within : b ≤ i
  pub strict : 0 < i → b < i
  pub greatest : (j : ℕ) (d : Option Stretch) → j < i
      → ticks_of (get_or trips j d) ≤ ticks_of (get_or trips b d)
  pub first : (j : ℕ) (d : Option Stretch) → j < b
      → ticks_of (get_or trips j d) < ticks_of (get_or trips b d)

pub longest_none : (trips : List (Option Stretch)) → IsLongestOf trips 0 0
longest_none trips = record {
  within = omega arith;
  strict = λ lt. omega arith;
  greatest = λ j d lt. absurd (omega (arith, lt));
  first = λ j d lt. absurd (omega (arith, lt));
}

pub longest_takes : (trips : List (Option Stretch)) (i b : ℕ)
    → ((d : Option Stretch) → ticks_of (get_or trips b d) < ticks_of (get_or trips i d))
    → IsLongestOf trips i b → IsLongestOf trips (i + 1) i
longest_takes trips i b more so_far = record {
  within = omega arith;
  strict = λ lt. omega arith;
  greatest = λ j d lt.
      ⊎_elim (λ before. omega (arith, more d, so_far.greatest j d before))
      (λ (past : i ≤ j). let here : j ≡ i = omega (arith, lt, past) in rw here (omega arith))
      (cases_lt j i);
  first = λ j d lt. omega (arith, more d, so_far.greatest j d lt);
}

pub longest_keeps : (trips : List (Option Stretch)) (i b : ℕ)
    → ((d : Option Stretch) → ticks_of (get_or trips i d) ≤ ticks_of (get_or trips b d))
    → IsLongestOf trips i b → IsLongestOf trips (i + 1) b
longest_keeps trips i b less so_far = record {
  within = omega (arith, so_far.within);
  strict = λ lt. omega (arith, so_far.within);
  greatest = λ j d lt.
      ⊎_elim (λ before. so_far.greatest j d before)
      (λ (past : i ≤ j). let here : j ≡ i = omega (arith, lt, past) in rw here (less d))
      (cases_lt j i);
  first = so_far.first;
}

-- that of all is the place of the longest
pub longest_of_all : (trips : List (Option Stretch)) (i b : ℕ) → i ≡ length trips
    → IsLongestOf trips i b → b ≡ longest_place trips
longest_of_all trips i b all of =
    let d : Option Stretch = None in
    let within : b ≤ length trips = omega (arith, all, of.within) in
    let strict : 0 < length trips → b < length trips = λ some. omega (arith, all, of.strict (omega (arith, all, some))) in
    let greatest : (k : ℕ) (e : Option Stretch) → k < length trips → ticks_of (get_or trips k e) ≤ ticks_of (get_or trips b e) =
    λ k e lt. of.greatest k e (omega (arith, all, lt)) in
    sym (position_or_len_is (is_longest trips) trips b d within
    (λ k lt.
    list_all_at (λ (other : Option Stretch). nat_le (ticks_of other) (ticks_of (get_or trips k d))) trips b d
    (strict (omega (arith, lt, within)))
    (lt-leb (ticks_of (get_or trips b d)) (ticks_of (get_or trips k d)) (of.first k d lt)))
    (λ lt.
    list_all-from_AllPass (λ (other : Option Stretch). nat_le (ticks_of other) (ticks_of (get_or trips b d))) trips
    (λ k e at.
    le-leb (ticks_of (get_or trips k e)) (ticks_of (get_or trips b d))
    (subst (λ (v : Option Stretch). ticks_of (get_or trips k e) ≤ ticks_of v)
    (get_or_default trips b e d lt) (greatest k e at)))))
