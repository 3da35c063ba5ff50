-- Laws of changes.
use Rattle.std.proofs.Common.{◌≡◌, ◌<◌, ◌≤◌, ◌+◌, ◌-◌, ◌∷◌, ◌++◌, [], ℕ, zero, suc, Bool, true, false}
use Rattle.std.proofs.Common.{not, List, refl, sym, ◌∙◌, ap, subst, arith, ◌⊎◌, ⊎_elim, inl, inr}
use Rattle.std.specs.Prelude.{filter, nat_le, if◌then◌else◌}
use Rattle.std.specs.List.{All, AllZip, range_with_len}
use Rattle.std.specs.Bool.{beq}
use Rattle.std.proofs.lemmas.List.Elements.{filter-append, All-cons, All-nil, All-head, All-tail}
use Rattle.std.proofs.lemmas.List.Elements.{All-append, All-weaker}
use Rattle.std.proofs.lemmas.Bool.{cases_lt, le-leb, lt-leb}
use Rattle.run_changes.specs.rows.PlayRows.{value_before}
use Rattle.judge_match.specs.explain.Changes.{turns, changes, AreNear, HaveSameChanges}
use Rattle.judge_match.specs.explain.Changes.{StaysAround}

-- ---- one tick more

pub range_last : (a n : ℕ) → range_with_len a (suc n) ≡ range_with_len a n ++ (a + n) ∷ []
range_last a zero = let e : a ≡ a + 0 = omega arith in ap (λ k. k ∷ []) e
range_last a (suc n) =
    let e : (a + 1) + n ≡ a + suc n = omega arith in
    ap (λ l. a ∷ l) (range_last (a + 1) n ∙ ap (λ k. range_with_len (a + 1) n ++ k ∷ []) e)

-- the changes up to a tick, and the tick itself if the signal changes there
abbrev one_if : Bool → ℕ → List ℕ
one_if true t = t ∷ []
one_if false t = []

kept_one : (u : ℕ → Bool) (t : ℕ) → filter (turns u) (t ∷ []) ≡ one_if (turns u t) t
kept_one u t = by (turns u t) refl
  where
    by : (b : Bool) → turns u t ≡ b → filter (turns u) (t ∷ []) ≡ one_if (turns u t) t
    by true e = rw e refl
    by false e = rw e refl

changes_more : (u : ℕ → Bool) (n : ℕ) → changes u (suc n) ≡ changes u n ++ one_if (turns u n) n
changes_more u n =
    let e : 0 + n ≡ n = omega arith in
    ap (filter (turns u))
    (range_last 0 n ∙ ap (λ k. range_with_len 0 n ++ k ∷ []) e)
    ∙ filter-append (turns u) (range_with_len 0 n) (n ∷ [])
    ∙ ap (λ l. changes u n ++ l) (kept_one u n)

pub changes_at : (u : ℕ → Bool) (n : ℕ) → turns u n ≡ true → changes u (n + 1) ≡ changes u n ++ n ∷ []
changes_at u n on =
    let e : n + 1 ≡ suc n = omega arith in
    ap (changes u) e ∙ changes_more u n ∙ ap (λ b. changes u n ++ one_if b n) on

append_nil : (xs : List ℕ) → xs ++ [] ≡ xs
append_nil [] = refl
append_nil (x ∷ xs) = ap (λ l. x ∷ l) (append_nil xs)

pub changes_not : (u : ℕ → Bool) (n : ℕ) → turns u n ≡ false → changes u (n + 1) ≡ changes u n
changes_not u n off =
    let e : n + 1 ≡ suc n = omega arith in
    ap (changes u) e ∙ changes_more u n ∙ ap (λ b. changes u n ++ one_if b n) off
    ∙ append_nil (changes u n)

-- ---- signals that are the same have the same changes

before_same : (u v : ℕ → Bool) (n t : ℕ) → ((r : ℕ) → r < n → u r ≡ v r) → t < n
    → value_before u t ≡ value_before v t
before_same u v n zero same below = refl
before_same u v n (suc t) same below = same t (omega arith)

turns_same : (u v : ℕ → Bool) (n t : ℕ) → ((r : ℕ) → r < n → u r ≡ v r) → t < n
    → turns u t ≡ turns v t
turns_same u v n t same below =
    ap (λ b. not (beq b (value_before u t))) (same t below)
    ∙ ap (λ b. not (beq (v t) b)) (before_same u v n t same below)

pub changes_same : (u v : ℕ → Bool) (n : ℕ) → ((r : ℕ) → r < n → u r ≡ v r)
    → changes u n ≡ changes v n
changes_same u v zero same = refl
changes_same u v (suc n) same =
    changes_more u n
    ∙ ap (λ l. l ++ one_if (turns u n) n)
    (changes_same u v n (λ r below. same r (omega arith)))
    ∙ ap (λ b. changes v n ++ one_if b n) (turns_same u v (suc n) n same (omega arith))
    ∙ sym (changes_more v n)

-- ---- the level after changes

-- whether the number of these ticks that are not after t is odd
abbrev flips : List ℕ → ℕ → Bool
flips [] t = false
flips (x ∷ xs) t = if nat_le x t then not (flips xs t) else flips xs t

abbrev xor : Bool → Bool → Bool
xor true b = not b
xor false b = b

xor_not : (a b : Bool) → not (xor a b) ≡ xor (not a) b
xor_not true true = refl
xor_not true false = refl
xor_not false b = refl

flips_cons : (b : Bool) (x t : ℕ) (xs all : List ℕ) (e : Bool) → nat_le x t ≡ b
    → flips all t ≡ xor (flips xs t) e → flips (x ∷ all) t ≡ xor (flips (x ∷ xs) t) e
flips_cons true x t xs all e is rest = rw is (ap not rest ∙ xor_not (flips xs t) e)
flips_cons false x t xs all e is rest = rw is rest

flips_append : (xs ys : List ℕ) (t : ℕ) → flips (xs ++ ys) t ≡ xor (flips xs t) (flips ys t)
flips_append [] ys t = refl
flips_append (x ∷ xs) ys t =
    flips_cons (nat_le x t) x t xs (xs ++ ys) (flips ys t) refl (flips_append xs ys t)

flips_one : (b : Bool) (m t : ℕ) → m ≤ t → flips (one_if b m) t ≡ b
flips_one true m t past = rw (le-leb m t past) refl
flips_one false m t past = refl

flips_later : (b : Bool) (m t : ℕ) → t < m → flips (one_if b m) t ≡ false
flips_later true m t later = rw (lt-leb m t later) refl
flips_later false m t later = refl

xor_turn : (a b : Bool) → xor a (not (beq b a)) ≡ b
xor_turn true true = refl
xor_turn true false = refl
xor_turn false true = refl
xor_turn false false = refl

xor_false : (a : Bool) → xor a false ≡ a
xor_false true = refl
xor_false false = refl

-- after all changes the level is the last one
flips_past : (u : ℕ → Bool) (m t : ℕ) → m ≤ suc t → flips (changes u m) t ≡ value_before u m
flips_past u zero t past = refl
flips_past u (suc m) t past =
    ap (λ l. flips l t) (changes_more u m)
    ∙ flips_append (changes u m) (one_if (turns u m) m) t
    ∙ ap (λ b. xor b (flips (one_if (turns u m) m) t)) (flips_past u m t (omega arith))
    ∙ ap (xor (value_before u m)) (flips_one (turns u m) m t (omega arith))
    ∙ xor_turn (value_before u m) (u m)

-- a signal has at a tick the level that its changes up to there tell
level_told : (u : ℕ → Bool) (n t : ℕ) → t < n → flips (changes u n) t ≡ u t
level_told u zero t below = absurd (omega arith)
level_told u (suc m) t below = ⊎_elim
    (λ (early : t < m).
    ap (λ l. flips l t) (changes_more u m)
    ∙ flips_append (changes u m) (one_if (turns u m) m) t
    ∙ ap (λ b. xor (flips (changes u m) t) b) (flips_later (turns u m) m t early)
    ∙ xor_false (flips (changes u m) t) ∙ level_told u m t early)
    (λ (late : m ≤ t).
    let e : m ≡ t = omega arith in
    flips_past u (suc m) t (omega arith) ∙ ap u e)
    (cases_lt t m)

-- ---- each change is one

abbrev IsChange : (ℕ → Bool) → ℕ → ℕ → Type 0
IsChange u n x = (x < n) × (turns u x ≡ true)

one_is : (u : ℕ → Bool) (n : ℕ) (b : Bool) → turns u n ≡ b
    → All (IsChange u (suc n)) (one_if b n)
one_is u n true on = All-cons (IsChange u (suc n)) n [] (omega arith, on) (All-nil (IsChange u (suc n)))
one_is u n false off = All-nil (IsChange u (suc n))

changes_are : (u : ℕ → Bool) (n : ℕ) → All (IsChange u n) (changes u n)
changes_are u zero = All-nil (IsChange u zero)
changes_are u (suc n) =
    subst (All (IsChange u (suc n))) (sym (changes_more u n))
    (All-append (IsChange u (suc n)) (changes u n) (one_if (turns u n) n)
    (All-weaker (IsChange u n) (IsChange u (suc n))
    (λ x is. (omega (arith, is.0), is.1)) (changes u n) (changes_are u n))
    (one_is u n (turns u n) refl))

-- ---- around a tick

no_turn : (a b level : Bool) → a ≡ level → b ≡ level → not (beq a b) ≡ true → ⊥
no_turn true true level e f on = let off : false ≡ true = on in absurd (cc)
no_turn true false level e f on = let off : true ≡ false = e ∙ sym f in absurd (cc)
no_turn false true level e f on = let off : false ≡ true = e ∙ sym f in absurd (cc)
no_turn false false level e f on = let off : false ≡ true = on in absurd (cc)

-- no change is near a tick around which the level is kept
abbrev FarFrom : ℕ → ℕ → ℕ → Type 0
FarFrom within t x = (x + within ≤ t) ⊎ (t + within < x)

far_one : (within n : ℕ) (u : ℕ → Bool) (t x : ℕ) (level : Bool) → StaysAround within n u t level
    → IsChange u n x → within ≤ t → FarFrom within t x
far_one within n u t zero level stays is reach = inl (omega arith)
far_one within n u t (suc y) level stays is reach = ⊎_elim
    (λ (late : t + within < suc y). inr late)
    (λ (not_late : suc y ≤ t + within).
    ⊎_elim
    (λ (early : suc y + within < suc t). inl (omega arith))
    (λ (not_early : suc t ≤ suc y + within).
    absurd (no_turn (u (suc y)) (u y) level
    (stays.ticks (suc y) is.0 (omega arith) not_late)
    (stays.ticks y (omega (arith, is.0)) (omega arith) (omega arith)) is.1))
    (cases_lt (suc y + within) (suc t)))
    (cases_lt (t + within) (suc y))

later_one : (within n : ℕ) (u : ℕ → Bool) (t x : ℕ) → StaysAround within n u t false
    → IsChange u n x → t < within → t + within < x
later_one within n u t zero stays is start =
    absurd (no_turn (u zero) false false (stays.ticks zero is.0 (omega arith) (omega arith)) refl is.1)
later_one within n u t (suc y) stays is start = ⊎_elim
    (λ (late : t + within < suc y). late)
    (λ (not_late : suc y ≤ t + within).
    absurd (no_turn (u (suc y)) (u y) false
    (stays.ticks (suc y) is.0 (omega arith) not_late)
    (stays.ticks y (omega (arith, is.0)) (omega arith) (omega arith)) is.1))
    (cases_lt (t + within) (suc y))

-- so both lists have as many changes up to it
flips_pair : (within t s x y : ℕ) (a b : Bool) → s + within ≡ t → AreNear within x y
    → FarFrom within t x → a ≡ b
    → (if nat_le x s then not a else a) ≡ (if nat_le y t then not b else b)
flips_pair within t s x y a b e near far same = ⊎_elim
    (λ (early : x + within ≤ t).
    let one : x ≤ s = omega arith in
    let two : y ≤ t = omega (arith, near.late) in
    rw (le-leb x s one, le-leb y t two) (ap not same))
    (λ (late : t + within < x).
    let one : s < x = omega arith in
    let two : t < y = omega (arith, near.early) in
    rw (lt-leb x s one, lt-leb y t two) same)
    far

flips_near : (within t s : ℕ) (xs ys : List ℕ) → s + within ≡ t → AllZip (AreNear within) xs ys
    → All (FarFrom within t) xs → flips xs s ≡ flips ys t
flips_near within t s [] [] e near far = refl
flips_near within t s [] (y ∷ ys) e near far = absurd near
flips_near within t s (x ∷ xs) [] e near far = absurd near
flips_near within t s (x ∷ xs) (y ∷ ys) e near far =
    flips_pair within t s x y (flips xs s) (flips ys t) e near.0
    (All-head (FarFrom within t) x xs far)
    (flips_near within t s xs ys e near.1 (All-tail (FarFrom within t) x xs far))

flips_none : (within t : ℕ) (xs ys : List ℕ) → AllZip (AreNear within) xs ys
    → All (λ x. t + within < x) xs → flips ys t ≡ false
flips_none within t [] [] near later = refl
flips_none within t [] (y ∷ ys) near later = absurd near
flips_none within t (x ∷ xs) [] near later = absurd near
flips_none within t (x ∷ xs) (y ∷ ys) near later =
    let here : t + within < x = All-head (λ x. t + within < x) x xs later in
    let past : t < y = omega (arith, near.0.early) in
    rw (lt-leb y t past)
    (flips_none within t xs ys near.1 (All-tail (λ x. t + within < x) x xs later))

pub level_kept : (within n : ℕ) (u v : ℕ → Bool) (t : ℕ) (level : Bool)
    → HaveSameChanges within n u v → t < n → StaysAround within n u t level → v t ≡ level
level_kept within n u v t level near below stays = ⊎_elim
    (λ (start : t < within).
    let off : level ≡ false = stays.start start in
    sym (level_told v n t below)
    ∙ flips_none within t (changes u n) (changes v n) near
    (All-weaker (IsChange u n) (λ x. t + within < x)
    (λ x is. later_one within n u t x (subst (StaysAround within n u t) off stays) is start)
    (changes u n) (changes_are u n))
    ∙ sym off)
    (λ (reach : within ≤ t).
    let e : (t - within) + within ≡ t = omega arith in
    sym (level_told v n t below)
    ∙ sym (flips_near within t (t - within) (changes u n) (changes v n) e near
    (All-weaker (IsChange u n) (FarFrom within t)
    (λ x is. far_one within n u t x level stays is reach) (changes u n) (changes_are u n)))
    ∙ level_told u n (t - within) (omega arith)
    ∙ stays.ticks (t - within) (omega arith) (omega arith) (omega arith))
    (cases_lt t within)
