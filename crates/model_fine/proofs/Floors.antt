-- The tick in which a fine tick lies.
use Rattle.std.proofs.Common.{◌≡◌, ◌+◌, ◌-◌, ◌*◌, ◌/◌, ◌<◌, ◌≤◌, ℕ, arith, ◌∙◌, ap}
use Rattle.std.proofs.Math.Nat.{div-mul-le_self, lt-div-mul-add, mul-le-mul_right}
use Rattle.std.proofs.Math.Nat.{lt_of_mul-lt-mul_right, le_of_mul-le-mul_right}
use Rattle.std.proofs.lemmas.Nat.{le-div, div_below, div-mul-add}

module _ (n : ℕ) (some : 1 ≤ n) where
  -- it begins at or before the fine tick, and ends behind it
  pub begins : (t : ℕ) → t / n * n ≤ t
  begins t = div-mul-le_self t n

  pub ends : (t : ℕ) → t < t / n * n + n
  ends t = lt-div-mul-add {a = t} {b = n} some

  pub at_or_after : (q t : ℕ) → q * n ≤ t → q ≤ t / n
  at_or_after q t le = le-div q t n some le

  pub before : (q t : ℕ) → t < q * n → t / n < q
  before q t lt = div_below t n q some lt

  pub up_to : (q t : ℕ) → t < q * n + n → t / n ≤ q
  up_to q t lt = let below : t / n < q + 1 = before (q + 1) t (omega arith) in omega arith

  -- later fine ticks lie in later ticks
  pub later : (r t : ℕ) → r ≤ t → r / n ≤ t / n
  later r t le = let b : r / n * n ≤ r = begins r in at_or_after (r / n) t (omega arith)

  -- so many times n
  pub times : (p q : ℕ) → p ≤ q → p * n ≤ q * n
  times p q le = mul-le-mul_right {m = p} {n = q} n le

  pub times_back : (p q : ℕ) → p * n ≤ q * n → p ≤ q
  times_back p q le = le_of_mul-le-mul_right {m = p} {n = q} {k = n} le some

  pub below_back : (p q : ℕ) → p * n < q * n → p < q
  below_back p q lt = lt_of_mul-lt-mul_right n {m = p} {n = q} lt

  -- the fine ticks of tick q
  pub within : (q j : ℕ) → j < n → (q * n + j) / n ≡ q
  within q j lt = div-mul-add q n j lt

  pub first : (q : ℕ) → q * n / n ≡ q
  first q = let e : q * n ≡ q * n + 0 = omega arith in ap (λ (t : ℕ). t / n) e ∙ within q 0 some

  pub sum : (a p q : ℕ) → a + p ≡ q → a * n + p * n ≡ q * n
  sum a p q e = let scaled : (a + p) * n ≡ q * n = ap (λ (x : ℕ). x * n) e in omega arith

  -- p ticks before a fine tick lies the tick that is p before its own
  pub earlier : (p t : ℕ) → p ≤ t / n → (t - p * n) / n ≡ t / n - p
  earlier p t le =
      let b : t / n * n ≤ t = begins t in
      let e : t < t / n * n + n = ends t in
      let d : (t / n - p) * n + p * n ≡ t / n * n = sum (t / n - p) p (t / n) (omega arith) in
      let s : t - p * n ≡ (t / n - p) * n + (t - t / n * n) = omega (arith, d) in
      ap (λ (x : ℕ). x / n) s ∙ within (t / n - p) (t - t / n * n) (omega (arith, b, e))
