-- Rounding to ticks as division, and the values of a sweep one by one.
use Rattle.std.proofs.Common.{◌≡◌, ◌∙◌, ◌+◌, ◌-◌, ◌*◌, ◌<◌, ◌≤◌, ◌++◌, ℕ, zero, suc, Bool, true}
use Rattle.std.proofs.Common.{false, List, [], ◌∷◌, Ok, Err, ap, refl, le-leb, arith}
use Rattle.std.proofs.lemmas.Bool.{false_from_ne_true, leb-true}
use Rattle.std.proofs.Math.Nat.{mul-le-mul_right}
use Rattle.file_study.specs.declared.times.fraction.Fraction.{Fraction}
use Rattle.file_study.specs.declared.times.time.Sweep.{Sweep}
use Rattle.file_study.specs.{times.Rounding.IsRoundedDown, times.Rounding.IsRoundedUp, times.Sweeps.value_of}
use Rattle.file_study.specs.{times.Fractions.is_at_most, times.Sweeps.IsCount}
use Rattle.file_study.specs.times.WholeTickLaws.{divided_up as whole_up}
use Rattle.file_study.specs.times.RoundedLaws.{rounded_down}
use Rattle.file_document.specs.declared.fault.DocumentFault.{DocumentFault}
use Rattle.file_document.specs.declared.fault.DocumentFault.TheVariants as fault
use Rattle.file_study.specs.study.Rounding.{down, up, rounded, divided_up}
use Rattle.file_study.specs.study.Moments.{values_from, all_limited, limited, swept_in}

antisym : (x y : ℕ) → x ≤ y → y ≤ x → x ≡ y
antisym x y a b = omega arith

-- what is rounded down is the quotient
pub down_is : (tick n : ℕ) (a : Fraction) → 0 < a.under → 0 < tick → IsRoundedDown tick a n
    → n ≡ down tick a
down_is tick n a some ticked given =
    let own = rounded_down a tick some ticked in
    antisym n (down tick a) (own.1 n given.0) (given.1 (down tick a) own.0)

-- two quotients rounded up come to the least number of ticks that is enough
rounded_up : (tick : ℕ) (a : Fraction) → 0 < a.under → 0 < tick → IsRoundedUp tick a (up tick a)
rounded_up tick a some ticked =
    let c : ℕ = divided_up a.over a.under in
    let u : ℕ = divided_up c tick in
    let inner = whole_up a.under a.over some in
    let outer = whole_up tick c ticked in
    let first : a.over * 1 ≤ c * a.under * 1 = inner.0 in
    let second : c * 1 ≤ u * tick * 1 = outer.0 in
    let all : c * a.under ≤ u * tick * a.under =
    mul-le-mul_right {m = c} {n = u * tick} a.under (omega arith) in (
      omega arith,
      λ m enough.
          let given : a.over * 1 ≤ m * tick * a.under = enough in
          let here : c ≤ m * tick = inner.1 (m * tick) (omega arith) in
          outer.1 m (omega arith),
    )

pub up_is : (tick n : ℕ) (a : Fraction) → 0 < a.under → 0 < tick → IsRoundedUp tick a n
    → n ≡ up tick a
up_is tick n a some ticked given =
    let own = rounded_up tick a some ticked in
    antisym n (up tick a) (given.1 (up tick a) own.0) (own.1 n given.0)

-- the next value, and then those after it
step : (s : Sweep) (i n : ℕ) → is_at_most (value_of s i) s.last ≡ true
    → values_from s i (suc n) ≡ value_of s i ∷ values_from s (i + 1) n
unfolding values_from
step s i n test = rw test

pub values_more : (s : Sweep) (i : ℕ) → i < 1000 → is_at_most (value_of s i) s.last ≡ true
    → values_from s i (1000 - i) ≡ value_of s i ∷ values_from s (i + 1) (1000 - (i + 1))
values_more s i less test =
    let e : 1000 - i ≡ suc (1000 - (i + 1)) = omega arith in
    ap (values_from s i) e ∙ step s i (1000 - (i + 1)) test

-- past the last there are none
pub values_none : (s : Sweep) (i n : ℕ) → is_at_most (value_of s i) s.last ≡ false
    → values_from s i n ≡ []
unfolding values_from
values_none s i zero test = refl
values_none s i (suc n) test = rw test

module _ (upward : Bool) (tick : ℕ) (path : List ℕ) where
  pub limited_more : (a : Fraction) (more : List Fraction) (done : List ℕ) (n : ℕ)
      → limited path (rounded upward tick a) ≡ Ok n
      → all_limited upward tick path (a ∷ more) done
      ≡ all_limited upward tick path more (done ++ n ∷ [])
  unfolding all_limited
  limited_more a more done n e = rw e

  pub limited_ends : (a : Fraction) (more : List Fraction) (done : List ℕ) (why : DocumentFault)
      → limited path (rounded upward tick a) ≡ Err why
      → all_limited upward tick path (a ∷ more) done ≡ Err why
  unfolding all_limited
  limited_ends a more done why e = rw e

  pub limited_none : (done : List ℕ) → all_limited upward tick path [] done ≡ Ok done
  unfolding all_limited
  limited_none done = refl

-- a value is at most the last if it is one of those that are counted
pub test_true : (s : Sweep) (count : ℕ) → IsCount s count → (i : ℕ) → i < count
    → is_at_most (value_of s i) s.last ≡ true
test_true s count counted i less =
    le-leb ((value_of s i).over * s.last.under) (s.last.over * (value_of s i).under)
    ((counted i).0 less)

pub test_false : (s : Sweep) (count : ℕ) → IsCount s count → (i : ℕ) → count ≤ i
    → is_at_most (value_of s i) s.last ≡ false
test_false s count counted i past =
    false_from_ne_true (is_at_most (value_of s i) s.last) (λ most.
    let below : i < count = (counted i).1
    (leb-true ((value_of s i).over * s.last.under) (s.last.over * (value_of s i).under) most) in
    absurd (omega arith))

module _ (upward : Bool) (tick : ℕ) (path : List ℕ) (s : Sweep) (count : ℕ)
    (counted : IsCount s count) where
  pub many_values : 1000 < count → swept_in upward tick path s ≡ Err (fault.TooMany path)
  unfolding swept_in
  many_values many = rw (test_true s count counted 1000 many)

  pub few_values : count ≤ 1000
      → swept_in upward tick path s ≡ all_limited upward tick path (values_from s 0 1000) []
  unfolding swept_in
  few_values few = rw (test_false s count counted 1000 few)
