-- The bits of lanes.
use Rattle.std.proofs.Common.{◌≡◌, ℕ, zero, suc, ◌-◌, ◌<◌, ◌^◌, true, false, not, ◌&&◌, ◌||◌, eqb}
use Rattle.std.proofs.Common.{min, max, bit_and, bit_or, refl, ◌∙◌, ap, arith, w64, List, [], ◌∷◌}
use Rattle.std.proofs.Common.{length, get_or, Bool, ◌≢◌}
use Rattle.std.proofs.Math.Pow.{pow-lt}
use Rattle.std.proofs.lemmas.Nat.Bits.{bit_at-pow_same, bit_at-pow_other, bit_at_and, bit_at_or}
use Rattle.std.proofs.lemmas.Nat.Bits.{bit_at_not, bit_at-lt, bit_at_ones, bit_at-zero}
use Rattle.std.specs.Int.{bit_at}
use Rattle.model_history.specs.Rails.{both, rails_and, rails_or, rails_not}
use Rattle.run_signal.specs.Bits.{bit_on, bit_rails}

both_ones : (a b : ℕ) → a < 2 → b < 2 → eqb (min a b) 1 ≡ (eqb a 1 && eqb b 1)
both_ones zero zero h i = refl
both_ones zero (suc zero) h i = refl
both_ones (suc zero) zero h i = refl
both_ones (suc zero) (suc zero) h i = refl
both_ones (suc (suc a)) b h i = absurd (omega arith)
both_ones zero (suc (suc b)) h i = absurd (omega arith)
both_ones (suc zero) (suc (suc b)) h i = absurd (omega arith)

some_one : (a b : ℕ) → a < 2 → b < 2 → eqb (max a b) 1 ≡ (eqb a 1 || eqb b 1)
some_one zero zero h i = refl
some_one zero (suc zero) h i = refl
some_one (suc zero) zero h i = refl
some_one (suc zero) (suc zero) h i = refl
some_one (suc (suc a)) b h i = absurd (omega arith)
some_one zero (suc (suc b)) h i = absurd (omega arith)
some_one (suc zero) (suc (suc b)) h i = absurd (omega arith)

not_one : (a : ℕ) → a < 2 → eqb (1 - a) 1 ≡ not (eqb a 1)
not_one zero h = refl
not_one (suc zero) h = refl
not_one (suc (suc a)) h = absurd (omega arith)

pub bit_rails-and : (a b lane : ℕ) → bit_rails (bit_and a b) lane ≡ rails_and (bit_rails a lane)
    (bit_rails b lane)
bit_rails-and a b lane = ap both (ap (λ (n : ℕ). eqb n 1) (bit_at_and a b lane)
    ∙ both_ones (bit_at a lane) (bit_at b lane) (bit_at-lt a lane) (bit_at-lt b lane))

pub bit_rails-or : (a b lane : ℕ) → bit_rails (bit_or a b) lane ≡ rails_or (bit_rails a lane)
    (bit_rails b lane)
bit_rails-or a b lane = ap both (ap (λ (n : ℕ). eqb n 1) (bit_at_or a b lane)
    ∙ some_one (bit_at a lane) (bit_at b lane) (bit_at-lt a lane) (bit_at-lt b lane))

pub bit_rails-not : (a lane : ℕ) → a < 2 ^ 64 → lane < 64 →
    bit_rails (2 ^ 64 - 1 - a) lane ≡ rails_not (bit_rails a lane)
bit_rails-not a lane h i = ap both (ap (λ (n : ℕ). eqb n 1) (bit_at_not w64 a lane h i)
    ∙ not_one (bit_at a lane) (bit_at-lt a lane))

pub bit_rails-ones : (lane : ℕ) → lane < 64 → bit_rails (2 ^ 64 - 1) lane ≡ both true
bit_rails-ones lane h = ap both (ap (λ (n : ℕ). eqb n 1) (bit_at_ones 64 lane h))

pub bit_rails-zero : (lane : ℕ) → bit_rails 0 lane ≡ both false
bit_rails-zero lane = ap both (ap (λ (n : ℕ). eqb n 1) (bit_at-zero lane))

or_true : (b : Bool) → rails_or (both b) (both true) ≡ both true
or_true true = refl
or_true false = refl

or_false : (b : Bool) → rails_or (both b) (both false) ≡ both b
or_false true = refl
or_false false = refl

and_true : (b : Bool) → rails_and (both b) (both true) ≡ both b
and_true true = refl
and_true false = refl

and_false : (b : Bool) → rails_and (both b) (both false) ≡ both false
and_false true = refl
and_false false = refl

-- ---- one bit set, and one bit cleared

pub bit_rails-one : (k : ℕ) → bit_rails (2 ^ k) k ≡ both true
bit_rails-one k = ap both (ap (λ (n : ℕ). eqb n 1) (bit_at-pow_same k))

pub bit_rails-one_other : (k i : ℕ) → i ≢ k → bit_rails (2 ^ k) i ≡ both false
bit_rails-one_other k i ne = ap both (ap (λ (n : ℕ). eqb n 1) (bit_at-pow_other k i ne))

pub bit_rails-set : (a k : ℕ) → bit_rails (bit_or a (2 ^ k)) k ≡ both true
bit_rails-set a k = bit_rails-or a (2 ^ k) k ∙ ap (rails_or (bit_rails a k)) (bit_rails-one k)
    ∙ or_true (bit_on a k)

pub bit_rails-set_other : (a k i : ℕ) → i ≢ k → bit_rails (bit_or a (2 ^ k)) i ≡ bit_rails a i
bit_rails-set_other a k i ne = bit_rails-or a (2 ^ k) i
    ∙ ap (rails_or (bit_rails a i)) (bit_rails-one_other k i ne) ∙ or_false (bit_on a i)

-- the bits of all but one
but_one : (k i : ℕ) → k < 64 → i < 64 → bit_rails (2 ^ 64 - 1 - 2 ^ k) i ≡ rails_not
    (bit_rails (2 ^ k) i)
but_one k i h lt = bit_rails-not (2 ^ k) i (pow-lt h) lt

pub bit_rails-clear : (a k : ℕ) → k < 64 → bit_rails (bit_and a (2 ^ 64 - 1 - 2 ^ k)) k ≡ both false
bit_rails-clear a k h =
    bit_rails-and a (2 ^ 64 - 1 - 2 ^ k) k
    ∙ ap (rails_and (bit_rails a k)) (but_one k k h h ∙ ap rails_not (bit_rails-one k))
    ∙ and_false (bit_on a k)

pub bit_rails-clear_other : (a k i : ℕ) → k < 64 → i < 64 → i ≢ k →
    bit_rails (bit_and a (2 ^ 64 - 1 - 2 ^ k)) i ≡ bit_rails a i
bit_rails-clear_other a k i h lt ne =
    bit_rails-and a (2 ^ 64 - 1 - 2 ^ k) i
    ∙ ap (rails_and (bit_rails a i)) (but_one k i h lt ∙ ap rails_not (bit_rails-one_other k i ne))
    ∙ and_true (bit_on a i)

-- lists that are as long and the same at each index
pub lists_same : (xs ys : List ℕ) → length xs ≡ length ys →
    ((k : ℕ) → k < length xs → get_or xs k 0 ≡ get_or ys k 0) → xs ≡ ys
lists_same [] [] e h = refl
lists_same [] (y ∷ ys) e h = absurd (omega arith)
lists_same (x ∷ xs) [] e h = absurd (omega arith)
lists_same (x ∷ xs) (y ∷ ys) e h =
    ap (λ (z : ℕ). z ∷ xs) (h 0 (omega arith))
    ∙ ap (λ (zs : List ℕ). y ∷ zs) (lists_same xs ys (omega arith)
    (λ k lt. h (suc k) (omega arith)))
