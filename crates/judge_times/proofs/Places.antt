-- Whole times at which a part tells that a terminal fails.
use Rattle.std.proofs.Common.{◌≡◌, ◌≤◌, ◌<◌, ℕ, zero, suc, List, [], ◌∷◌, Option, None, Some, length}
use Rattle.std.proofs.Common.{map, refl, sym, subst, ap, ◌∙◌, arith, inl, inr}
use Rattle.std.proofs.lemmas.Bool.{and_parts, eqb-true, leb-true}
use Rattle.std.proofs.lemmas.List.{length-map}
use Rattle.std.specs.Prelude.{IsTrue, get_or, nat_le, slice_get}
use Rattle.model_history.specs.Rails.{Ends, single}
use Rattle.judge_borders.specs.declared.fault.PartRule.TheVariants as rule
use Rattle.judge_borders.specs.{Halves.AreWithin, Parts.IsPart}
use Rattle.judge_borders.specs.Laws.{WhatIsKnownOfAPartIsKnownWithin}
use Rattle.judge_times.specs.declared.fault.Uncertain.{Uncertain}
use Rattle.judge_times.specs.declared.part.{Part.Part, Told.Told}
use Rattle.judge_times.specs.declared.part.Told.TheVariants.{Held, Broken, Fails, Open}
use Rattle.judge_times.specs.Answers.{IsAnswer}
use Rattle.judge_times.specs.Along.{fails_by, fails_here, first_of, times_at}
use Rattle.judge_times.specs.Stretches.{FailsThere, times_of}
use Rattle.judge_times.proofs.Leasts.{fails_same}
use Rattle.judge_times.proofs.Wholes.{within_within}

-- each other time stands at its least
rest_at : (rest : List Ends) (i : ℕ)
    → get_or (times_of (map (λ (ends : Ends). ends.least) rest)) i (single 0)
    ≡ single (get_or rest i (single 0)).least
rest_at [] i = refl
rest_at (ends ∷ rest) zero = refl
rest_at (ends ∷ rest) (suc i) = rest_at rest i

many_times : (lengths : List Ends) (t : ℕ) → length (times_of (times_at lengths t)) ≡ length lengths
many_times [] t = refl
many_times (first ∷ rest) t =
    ap suc (length-map (map (λ (ends : Ends). ends.least) rest) single
    ∙ length-map rest (λ (ends : Ends). ends.least))

from_at : (first : Ends) (rest : List Ends) (t i : ℕ) → first.least ≤ t
    → (get_or (first ∷ rest) i (single 0)).least
    ≤ (get_or (times_of (times_at (first ∷ rest) t)) i (single 0)).least
from_at first rest t zero low = low
from_at first rest t (suc i) low =
    subst (λ (e : Ends). (get_or rest i (single 0)).least ≤ e.least) (sym (rest_at rest i)) (omega arith)

to_at : (first : Ends) (rest : List Ends) (t i : ℕ) → IsPart (first ∷ rest) → t ≤ first.greatest
    → i < length (first ∷ rest)
    → (get_or (times_of (times_at (first ∷ rest) t)) i (single 0)).greatest
    ≤ (get_or (first ∷ rest) i (single 0)).greatest
to_at first rest t zero is high lt = high
to_at first rest t (suc i) is high lt =
    subst (λ (e : Ends). e.greatest ≤ (get_or rest i (single 0)).greatest) (sym (rest_at rest i))
    (is.ordered (suc i) lt)

-- the first may stand anywhere in its interval
within_times : (lengths : List Ends) (t : ℕ) → IsPart lengths → (get_or lengths 0 (single 0)).least ≤ t
    → t ≤ (get_or lengths 0 (single 0)).greatest → AreWithin lengths (times_of (times_at lengths t))
within_times [] t is low high = record {
  many = refl;
  from = λ i lt. absurd (omega (arith, lt));
  to = λ i lt. absurd (omega (arith, lt));
}
within_times (first ∷ rest) t is low high = record {
  many = many_times (first ∷ rest) t;
  from = λ i lt. from_at first rest t i low;
  to = λ i lt. to_at first rest t i is high lt;
}

-- at its least all are
least_at : (lengths : List Ends) (t i : ℕ) → t ≡ (get_or lengths 0 (single 0)).least
    → (get_or (times_of (times_at lengths t)) i (single 0)).least
    ≡ (get_or lengths i (single 0)).least
least_at [] t i is = refl
least_at (first ∷ rest) t zero is = is
least_at (first ∷ rest) t (suc i) is = ap (λ (e : Ends). e.least) (rest_at rest i)

first_at : (lengths : List Ends) (t : ℕ) → t ≤ (get_or lengths 0 (single 0)).greatest
    → get_or (times_at lengths t) 0 0 ≡ t
first_at [] t high = omega (arith, high)
first_at (first ∷ rest) t high = refl

ordered_first : (lengths : List Ends) → IsPart lengths
    → (get_or lengths 0 (single 0)).least ≤ (get_or lengths 0 (single 0)).greatest
ordered_first [] is = omega arith
ordered_first (first ∷ rest) is = is.ordered 0 (omega arith)

module _ (known : WhatIsKnownOfAPartIsKnownWithin) (of : Uncertain) (whole : List Ends) (part : Part)
    (k t : ℕ) (answer : IsAnswer of whole part) where
  abbrev lengths : List Ends
  lengths = part.lengths.items

  there : (told : Option Told) → slice_get part.told.items k ≡ told
      → IsTrue (fails_by (first_of part) t told) → FailsThere of whole k t (times_at lengths t)
  there None at on = absurd (cc)
  there (Some Held) at on = absurd (cc)
  there (Some Open) at on = absurd (cc)
  there (Some Broken) at on =
      let both = and_parts (nat_le (first_of part).least t) (nat_le t (first_of part).greatest) on in
      let high : t ≤ (first_of part).greatest = leb-true t (first_of part).greatest both.1 in
      let within = within_times lengths t answer.is (leb-true (first_of part).least t both.0) high in
      record {
        within = within_within whole lengths (times_of (times_at lengths t)) answer.within within;
        first = first_at lengths t high;
        fails = inr (known.rule of.fault lengths (times_of (times_at lengths t)) k rule.Broken within
            (answer.told.each k Broken at));
      }
  there (Some Fails) at on =
      let same : t ≡ (first_of part).least = sym (eqb-true (first_of part).least t on) in
      let ordered = ordered_first lengths answer.is in
      let high : t ≤ (first_of part).greatest = omega (arith, same, ordered) in
      let within = within_times lengths t answer.is (omega (arith, same)) high in
      record {
        within = within_within whole lengths (times_of (times_at lengths t)) answer.within within;
        first = first_at lengths t high;
        fails = inl (fails_same of lengths (times_of (times_at lengths t))
            (record { many = many_times lengths t; least = λ i. least_at lengths t i same }) k
            (answer.told.each k Fails at));
      }

  pub fails_there : IsTrue (fails_here t k part) → FailsThere of whole k t (times_at lengths t)
  fails_there on = there (slice_get part.told.items k) refl on
