-- Counts of calls, call after call.
use Rattle.std.proofs.Common.{◌≡◌, ℕ, ◌+◌, ◌*◌, ◌≤◌, subst, arith, ⊎_elim}
use Rattle.std.proofs.Math.Nat.{min-le_left, min-le_right, le-min, min-eq_left, min-eq_right}
use Rattle.std.proofs.lemmas.Bool.{cases_lt}
use Rattle.std.specs.Prelude.{min}
use Rattle.call_engine.specs.Calls.{Calls, NoneFell}
use Rattle.base_text.specs.store.Counts.{Grew, Rose, last_count}

-- no calls
pub grew_nothing : (a n : ℕ) → n ≡ 0 → Grew a n a
grew_nothing a n none =
    let below = min-le_left (a + n) last_count in
    omega (arith, below, none)

-- so many calls, and then so many
pub grew_more : (a b c n m : ℕ) → Grew a n b → Grew b m c → Grew a (n + m) c
grew_more a b c n m p q =
    ⊎_elim
    (λ early.
    let low : min (a + n) last_count ≡ a + n = min-eq_left (omega (arith, early)) in
    let at_b : a + n ≤ b = omega (arith, low, p) in
    let left = min-le_left (a + (n + m)) last_count in
    let right = min-le_right (a + (n + m)) last_count in
    let both : min (a + (n + m)) last_count ≤ min (b + m) last_count =
    le-min (omega (arith, left, at_b)) right in
    omega (arith, both, q))
    (λ late.
    let low : min (a + n) last_count ≡ last_count = min-eq_right (omega (arith, late)) in
    let at_b : last_count ≤ b = omega (arith, low, p) in
    let high : min (b + m) last_count ≡ last_count = min-eq_right (omega (arith, at_b)) in
    let right = min-le_right (a + (n + m)) last_count in
    omega (arith, high, right, q))
    (cases_lt (a + n) last_count)

-- one call more
pub grew_once : (a b c n : ℕ) → Grew a n b → Rose b c → Grew a (n + 1) c
grew_once a b c n p q = grew_more a b c n 1 p q

-- one round of calls more
pub grew_round : (a b c i m : ℕ) → Grew a (i * m) b → Grew b m c → Grew a ((i + 1) * m) c
grew_round a b c i m p q =
    let all : i * m + m ≡ (i + 1) * m = omega arith in
    subst (λ (n : ℕ). Grew a n c) all (grew_more a b c (i * m) m p q)

-- all calls
pub grew_all : (a b n m : ℕ) → n ≡ m → Grew a n b → Grew a m b
grew_all a b n m same p = subst (λ (k : ℕ). Grew a k b) same p

-- no count falls where nothing is asked, and in one call after another
pub none_fell_same : (a : Calls) → NoneFell a a
none_fell_same a = record {
  plays = λ line. omega arith;
  certifies = λ line. omega arith;
  checks = λ line. omega arith;
}

pub none_fell_both : (a b c : Calls) → NoneFell a b → NoneFell b c → NoneFell a c
none_fell_both a b c p q = record {
  plays = λ line. (let x = p.plays line in let y = q.plays line in omega (arith, x, y));
  certifies = λ line. (let x = p.certifies line in let y = q.certifies line in omega (arith, x, y));
  checks = λ line. (let x = p.checks line in let y = q.checks line in omega (arith, x, y));
}

-- what was asked stays asked
pub grew_kept : (a b c n : ℕ) → Grew a n b → b ≤ c → Grew a n c
grew_kept a b c n p le = omega (arith, p, le)

pub rose_later : (a b c : ℕ) → a ≤ b → Rose b c → Rose a c
rose_later a b c le r =
    let left = min-le_left (a + 1) last_count in
    let right = min-le_right (a + 1) last_count in
    let both : min (a + 1) last_count ≤ min (b + 1) last_count =
    le-min (omega (arith, left, le)) right in
    omega (arith, both, r)
