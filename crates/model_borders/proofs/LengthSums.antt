-- Sums of lengths, each so many times, and what one sum has that another has not.
use Rattle.std.proofs.Common.{◌≡◌, ◌<◌, ◌≤◌, ◌+◌, ◌-◌, ◌*◌, ℕ, zero, suc, sym, subst, arith, ⊎_elim}
use Rattle.std.proofs.lemmas.Bool.{cases_lt}
use Rattle.std.proofs.Math.Nat.{mul-le-mul_left, mul_assoc}
use Rattle.model_borders.specs.Borders.{sum_below}

nothing : (z l n : ℕ) → z ≡ 0 → z * l * n ≡ 0
nothing z l n e = subst (λ (y : ℕ). y * l * n ≡ 0) (sym e) (omega arith)

without : (a t b : ℕ) → t ≡ 0 → a ≤ b → a + t ≤ b
without a t b none le = omega arith

wider : (a b c : ℕ) → a ≤ b → a ≤ b + c
wider a b c le = omega arith

chain : (a t c s : ℕ) → t ≤ c → s ≡ a + c → a + t ≤ s
chain a t c s le e = omega arith

chain_back : (a t c s : ℕ) → c ≤ t → s ≡ a + c → s ≤ a + t
chain_back a t c s le e = omega arith

spread : (p e x : ℕ) → (p + e) * x ≡ p * x + e * x
spread p e x = omega arith

-- so many times more of a length than of another
more : (q e l x n : ℕ) → l * n ≤ x → q * x + e * l * n ≤ (q + e) * x
more q e l x n low =
    chain (q * x) (e * l * n) (e * x) ((q + e) * x)
    (subst (λ (y : ℕ). y ≤ e * x) (sym (mul_assoc e l n)) (mul-le-mul_left e low)) (spread q e x)

fewer : (p e g x n : ℕ) → x ≤ g * n → (p + e) * x ≤ p * x + e * g * n
fewer p e g x n high =
    chain_back (p * x) (e * g * n) (e * x) ((p + e) * x)
    (subst (λ (y : ℕ). e * x ≤ y) (sym (mul_assoc e g n)) (mul-le-mul_left e high)) (spread p e x)

term : (p q l g x n : ℕ) → l * n ≤ x → x ≤ g * n
    → q * x + (p - q) * l * n ≤ p * x + (q - p) * g * n
term p q l g x n low high =
    ⊎_elim
    (λ lt.
    let e : p + (q - p) ≡ q = omega arith in
    without (q * x) ((p - q) * l * n) (p * x + (q - p) * g * n)
    (nothing (p - q) l n (omega arith))
    (subst (λ (y : ℕ). y * x ≤ p * x + (q - p) * g * n) e (fewer p (q - p) g x n high)))
    (λ le.
    let e : q + (p - q) ≡ p = omega arith in
    wider (q * x + (p - q) * l * n) (p * x) ((q - p) * g * n)
    (subst (λ (y : ℕ). q * x + (p - q) * l * n ≤ y * x) e (more q (p - q) l x n low)))
    (cases_lt p q)

step : (A B C D a b c d n : ℕ) → A + C * n ≤ B + D * n → a + c * n ≤ b + d * n
    → A + a + (C + c) * n ≤ B + b + (D + d) * n
step A B C D a b c d n before now = omega arith

top : (A C a c n : ℕ) → A ≤ C * n → a ≤ c * n → A + a ≤ (C + c) * n
top A C a c n before now = omega arith

bottom : (A C a c n : ℕ) → C * n ≤ A → c * n ≤ a → (C + c) * n ≤ A + a
bottom A C a c n before now = omega arith

module _ (n : ℕ) (p q l g x : ℕ → ℕ) where
  -- of two sums the one is no more than the other, and what it has more at the greatest lengths, less what it
  -- has less at the least
  pub sums : (m : ℕ) → ((i : ℕ) → i < m → l i * n ≤ x i) → ((i : ℕ) → i < m → x i ≤ g i * n)
      → sum_below (λ i. q i * x i) m + sum_below (λ i. (p i - q i) * l i) m * n
      ≤ sum_below (λ i. p i * x i) m + sum_below (λ i. (q i - p i) * g i) m * n
  sums zero low high = omega arith
  sums (suc m) low high =
      step (sum_below (λ i. q i * x i) m) (sum_below (λ i. p i * x i) m)
      (sum_below (λ i. (p i - q i) * l i) m) (sum_below (λ i. (q i - p i) * g i) m) (q m * x m)
      (p m * x m) ((p m - q m) * l m) ((q m - p m) * g m) n
      (sums m (λ i lt. low i (omega arith)) (λ i lt. high i (omega arith)))
      (term (p m) (q m) (l m) (g m) (x m) n (low m (omega arith)) (high m (omega arith)))

  -- a sum is no less than at the least lengths
  pub sum_least : (m : ℕ) → ((i : ℕ) → i < m → l i * n ≤ x i)
      → sum_below (λ i. p i * l i) m * n ≤ sum_below (λ i. p i * x i) m
  sum_least zero low = omega arith
  sum_least (suc m) low =
      bottom (sum_below (λ i. p i * x i) m) (sum_below (λ i. p i * l i) m) (p m * x m) (p m * l m) n
      (sum_least m (λ i lt. low i (omega arith)))
      (subst (λ (y : ℕ). y ≤ p m * x m) (sym (mul_assoc (p m) (l m) n))
      (mul-le-mul_left (p m) (low m (omega arith))))

  -- and no more than at the greatest lengths
  pub sum_most : (m : ℕ) → ((i : ℕ) → i < m → x i ≤ g i * n)
      → sum_below (λ i. p i * x i) m ≤ sum_below (λ i. p i * g i) m * n
  sum_most zero high = omega arith
  sum_most (suc m) high =
      top (sum_below (λ i. p i * x i) m) (sum_below (λ i. p i * g i) m) (p m * x m) (p m * g m) n
      (sum_most m (λ i lt. high i (omega arith)))
      (subst (λ (y : ℕ). p m * x m ≤ y) (sym (mul_assoc (p m) (g m) n))
      (mul-le-mul_left (p m) (high m (omega arith))))
