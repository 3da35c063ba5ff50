-- What one lane of a vector holds.
use Rattle.std.proofs.Common.{◌≡◌, ℕ, ◌+◌, ◌<◌, ◌≤◌, Bool, true, false, cond, eqb}
use Rattle.std.proofs.Common.{min, refl, ◌∙◌, arith, ⊎_elim}
use Rattle.std.proofs.lemmas.Bool.{cases_lt}
use Rattle.run_signal.specs.{Cells.AreBounded, Cells.numbers_of}
use Rattle.run_signal.specs.{Cells.fresh_numbers}

-- a truth value as a number, and back
pub bit_back : (b : Bool) → eqb (cond b 1 0) 1 ≡ b
bit_back true = refl
bit_back false = refl

-- the numbers of a lane before the first tick
pub fresh_lane : (p d run left p' d' : ℕ) → p ≡ p' → d ≡ d' → run ≡ 0 → left ≡ 0 →
    numbers_of p d run left ≡ fresh_numbers p' d'
fresh_lane p d run left p' d' ep ed er el = cc

pub fresh_bounded : (p d run left p' d' : ℕ) → p ≡ p' → d ≡ d' → run ≡ 0 → left ≡ 0 → p' ≤ 4000 →
    d' ≤ 4000 → AreBounded (numbers_of p d run left)
fresh_bounded p d run left p' d' ep ed er el hp hd = record {
  pickup = omega arith;
  dropout = omega arith;
  run = omega arith;
  left = omega arith;
}

-- the least of the lanes so far and of one more
pub met_more : (f : ℕ → ℕ) (lane steady now least : ℕ) → least ≡ min steady now → now ≡ f lane →
    (steady < 4000 → (k : ℕ) × (k < lane) × (steady ≡ f k)) → least < 4000 →
    (k : ℕ) × (k < lane + 1) × (least ≡ f k)
met_more f lane steady now least e is before less = ⊎_elim
    (λ lt. let old : (k : ℕ) × (k < lane) × (steady ≡ f k) = before (omega arith) in
    let past : old.0 < lane = old.1 in
    (old.0, omega arith, (let same : least ≡ steady = omega arith in same ∙ old.2)))
    (λ le. (lane, omega arith, (let same : least ≡ now = omega arith in same ∙ is)))
    (cases_lt steady now)
