-- A border stands between its earliest tick and its latest.
use Rattle.std.proofs.Common.{◌≡◌, ◌≤◌, ◌+◌, ◌-◌, ◌*◌, ℕ, List, length, subst, ap, arith}
use Rattle.std.proofs.Common.{⊎_elim}
use Rattle.std.proofs.lemmas.Bool.{cases_lt}
use Rattle.std.proofs.Math.Nat.{mul-le-mul_right}
use Rattle.std.specs.Prelude.{get_or, true, false}
use Rattle.model_history.specs.Rails.{Ends, single}
use Rattle.model_borders.specs.declared.script.Border.{Border}
use Rattle.model_borders.specs.Borders.{sum_below, fixed_in, times_in, stands, AreLengthsIn, ends_at}
use Rattle.model_borders.specs.Borders.{reach, earliest, latest, alone, earliest_alone, latest_alone}
use Rattle.model_borders.proofs.LengthSums.{sums, sum_least, sum_most}

low_of : (n place d fa fb A B R S E : ℕ) → E + (fa + S) ≡ place + (fb + R) → A + R * n ≤ B + S * n
    → d + (fa * n + A) ≡ place * n → E * n ≤ d + (fb * n + B)
low_of n place d fa fb A B R S E is le at =
    let scaled : (E + (fa + S)) * n ≡ (place + (fb + R)) * n = ap (λ (y : ℕ). y * n) is in
    omega arith

low : (n place d fa fb A B R S : ℕ) → A + R * n ≤ B + S * n → d + (fa * n + A) ≡ place * n
    → (place + (fb + R) - (fa + S)) * n ≤ d + (fb * n + B)
low n place d fa fb A B R S le at =
    ⊎_elim
    (λ lt.
    let none : 0 ≡ place + (fb + R) - (fa + S) = omega arith in
    subst (λ (y : ℕ). y * n ≤ d + (fb * n + B)) none (omega arith))
    (λ ge.
    low_of n place d fa fb A B R S (place + (fb + R) - (fa + S)) (omega arith) le at)
    (cases_lt (place + (fb + R)) (fa + S))

high_of : (n place d fa fb A B R S L : ℕ) → place + (fb + R) ≤ L + (fa + S) → B + S * n ≤ A + R * n
    → d + (fa * n + A) ≡ place * n → d + (fb * n + B) ≤ L * n
high_of n place d fa fb A B R S L most le at =
    let scaled : (place + (fb + R)) * n ≤ (L + (fa + S)) * n =
    mul-le-mul_right {m = place + (fb + R)} {n = L + (fa + S)} n most in
    omega arith

high : (n place d fa fb A B R S : ℕ) → B + S * n ≤ A + R * n → d + (fa * n + A) ≡ place * n
    → d + (fb * n + B) ≤ (place + (fb + R) - (fa + S)) * n
high n place d fa fb A B R S le at =
    high_of n place d fa fb A B R S (place + (fb + R) - (fa + S)) (omega arith) le at

most_of : (n f A S : ℕ) → A ≤ S * n → f * n + A ≤ (f + S) * n
most_of n f A S le = omega arith

least_of : (n f A S : ℕ) → S * n ≤ A → (f + S) * n ≤ f * n + A
least_of n f A S le = omega arith

module _ (n : ℕ) (borders : List Border) (part : List Ends) (x : ℕ → ℕ)
    (are : AreLengthsIn n part x) where
  least : ℕ → ℕ
  least i = ends_at false (get_or part i (single 0))

  greatest : ℕ → ℕ
  greatest i = ends_at true (get_or part i (single 0))

  own : ℕ → ℕ
  own b = sum_below (λ i. times_in borders b i * x i) (length part)

  sums_of : (a b : ℕ)
      → own a
      + sum_below (λ i. (times_in borders b i - times_in borders a i) * ends_at false (get_or part i (single 0)))
      (length part) * n
      ≤ own b
      + sum_below (λ i. (times_in borders a i - times_in borders b i) * ends_at true (get_or part i (single 0)))
      (length part) * n
  unfolding own least greatest
  sums_of a b =
      sums n (times_in borders b) (times_in borders a) least greatest x (length part) are.least are.greatest

  module _ (a place d : ℕ) (at : d + stands n borders (length part) x a ≡ place * n) (b : ℕ) where
    pub stands_from : earliest borders part a place b * n ≤ d + stands n borders (length part) x b
    unfolding earliest reach stands own
    stands_from =
        low n place d (fixed_in borders a) (fixed_in borders b) (own a) (own b)
        (sum_below (λ i. (times_in borders b i - times_in borders a i)
        * ends_at false (get_or part i (single 0))) (length part))
        (sum_below (λ i. (times_in borders a i - times_in borders b i)
        * ends_at true (get_or part i (single 0))) (length part))
        (sums_of a b) at

    pub stands_to : d + stands n borders (length part) x b ≤ latest borders part a place b * n
    unfolding latest reach stands own
    stands_to =
        high n place d (fixed_in borders a) (fixed_in borders b) (own a) (own b)
        (sum_below (λ i. (times_in borders b i - times_in borders a i)
        * ends_at true (get_or part i (single 0))) (length part))
        (sum_below (λ i. (times_in borders a i - times_in borders b i)
        * ends_at false (get_or part i (single 0))) (length part))
        (sums_of b a) at

  pub stands_least : (a : ℕ) → earliest_alone borders part a * n ≤ stands n borders (length part) x a
  unfolding stands alone own least
  stands_least a =
      least_of n (fixed_in borders a) (own a)
      (sum_below (λ i. times_in borders a i * ends_at false (get_or part i (single 0))) (length part))
      (sum_least n (times_in borders a) (times_in borders a) least greatest x (length part) are.least)

  pub stands_most : (a : ℕ) → stands n borders (length part) x a ≤ latest_alone borders part a * n
  unfolding stands alone own greatest
  stands_most a =
      most_of n (fixed_in borders a) (own a)
      (sum_below (λ i. times_in borders a i * ends_at true (get_or part i (single 0))) (length part))
      (sum_most n (times_in borders a) (times_in borders a) least greatest x (length part) are.greatest)
