-- Where borders stand at whole times.
use Rattle.std.proofs.Common.{◌≡◌, ◌≤◌, ◌<◌, ◌+◌, ◌*◌, ℕ, zero, suc, List, [], ◌∷◌, ◌⊎◌, inl, inr, Bool, true, false, refl, sym, ap, arith, ◌∙◌}
use Rattle.std.specs.Prelude.{get_or, replicate, if◌then◌else◌}
use Rattle.std.proofs.lemmas.List.{get_or-replicate}
use Rattle.model_borders.specs.Borders.{stands, sum_below}
use Rattle.model_borders.specs.declared.script.Border.{Border}
use Rattle.file_study.specs.study.Faults.{StageValues}
use Rattle.file_borders.specs.declared.drawn.At.{At}
use Rattle.file_borders.specs.Drawn.{AreBorders, behind, first_of}

abbrev pub start : At
start = record { ticks = 0; lengths = 0 }

-- how often a time stands in the sum of a border behind the first k
abbrev pub once : ℕ → ℕ → ℕ
once k i = get_or (replicate k 1) i 0

-- where a border stands, with m times
abbrev pub at_time : ℕ → (ℕ → ℕ) → At → ℕ
at_time m x at = at.ticks + sum_below (λ i. once at.lengths i * x i) m

abbrev pub place : ℕ → (ℕ → ℕ) → List At → ℕ → ℕ
place m x ats b = at_time m x (get_or ats b start)

once_in : (k i : ℕ) → i < k → once k i ≡ 1
once_in k i lt = get_or-replicate k i 1 0 lt

once_out : (k i : ℕ) → k ≤ i → once k i ≡ 0
once_out zero i le = refl
once_out (suc k) zero le = absurd (omega arith)
once_out (suc k) (suc i) le = once_out k i (omega arith)

same_below : (f g : ℕ → ℕ) (n : ℕ) → ((i : ℕ) → i < n → f i ≡ g i) → sum_below f n ≡ sum_below g n
same_below f g zero same = refl
same_below f g (suc n) same =
    let first : sum_below f n ≡ sum_below g n = same_below f g n (λ i lt. same i (omega arith)) in
    let last : f n ≡ g n = same n (omega arith) in omega arith

-- one is at most the other
total : (a b : ℕ) → a ≤ b → (a < b) ⊎ (a ≡ b)
total zero zero le = inr refl
total zero (suc b) le = inl (omega arith)
total (suc a) zero le = absurd (omega arith)
total (suc a) (suc b) le = next (total a b (omega arith))
  where
    next : (a < b) ⊎ (a ≡ b) → (suc a < suc b) ⊎ (suc a ≡ suc b)
    next (inl lt) = inl (omega arith)
    next (inr eq) = inr (ap suc eq)

one_times : (n : ℕ) → 1 * n ≡ n
one_times n = omega arith

pub no_times : (n : ℕ) → 0 * n ≡ 0
no_times n = omega arith

summed : (a b c d e : ℕ) → a ≡ b + e → c ≡ 0 → d ≡ 0 → a + c ≡ (b + d) + e
summed a b c d e one two three = omega arith

summed_last : (a b c d e : ℕ) → a ≡ b → c ≡ e → d ≡ 0 → a + c ≡ (b + d) + e
summed_last a b c d e one two three = omega arith

-- of x, the first k: one more adds the next
abbrev pub some : ℕ → (ℕ → ℕ) → ℕ → ℕ
some k x i = once k i * x i

one_more : (k m : ℕ) (x : ℕ → ℕ) → k < m
    → sum_below (some (k + 1) x) m ≡ sum_below (some k x) m + x k
one_more k zero x lt = absurd (omega arith)
one_more k (suc m) x lt = split (one_more k m x) (total k m (omega arith))
  where
    split : (k < m → sum_below (some (k + 1) x) m ≡ sum_below (some k x) m + x k) → (k < m) ⊎ (k ≡ m)
        → sum_below (some (k + 1) x) (suc m) ≡ sum_below (some k x) (suc m) + x k
    split next (inl before) =
        summed (sum_below (some (k + 1) x) m) (sum_below (some k x) m) (some (k + 1) x m) (some k x m) (x k)
        (next before) (ap (λ (n : ℕ). n * x m) (once_out (k + 1) m (omega arith)) ∙ no_times (x m))
        (ap (λ (n : ℕ). n * x m) (once_out k m (omega arith)) ∙ no_times (x m))
    split next (inr here) =
        summed_last (sum_below (some (k + 1) x) m) (sum_below (some k x) m) (some (k + 1) x m) (some k x m) (x k)
        (same_below (some (k + 1) x) (some k x) m (λ i lt. ap (λ (n : ℕ). n * x i)
        (once_in (k + 1) i (omega arith) ∙ sym (once_in k i (omega arith)))))
        (ap (λ (n : ℕ). n * x m) (once_in (k + 1) m (omega arith)) ∙ one_times (x m) ∙ ap x (sym here))
        (ap (λ (n : ℕ). n * x m) (once_out k m (omega arith)) ∙ no_times (x m))

assoc : (a b c : ℕ) → a + (b + c) ≡ (a + b) + c
assoc a b c = omega arith

swap : (a b c : ℕ) → (a + b) + c ≡ (a + c) + b
swap a b c = omega arith

-- the end of a stage: the time behind its begin for which it lasts
abbrev pub lasting : (ℕ → ℕ) → At → StageValues → ℕ
lasting x at s = if s.between then x at.lengths else first_of s

pub behind_at : (m : ℕ) (x : ℕ → ℕ) (at : At) (s : StageValues) (between : Bool) → s.between ≡ between
    → (between ≡ true → at.lengths < m) → at_time m x (behind at s) ≡ at_time m x at + lasting x at s
behind_at m x at s true is lt =
    ap (λ (b : Bool). at_time m x (if b then record { ticks = at.ticks; lengths = at.lengths + 1 }
    else record { ticks = at.ticks + first_of s; lengths = at.lengths })) is
    ∙ (let more : sum_below (λ i. once (at.lengths + 1) i * x i) m
    ≡ sum_below (λ i. once at.lengths i * x i) m + x at.lengths = one_more at.lengths m x (lt refl) in
    ap (λ (n : ℕ). at.ticks + n) more ∙ assoc at.ticks (sum_below (λ i. once at.lengths i * x i) m) (x at.lengths))
    ∙ ap (λ (b : Bool). at_time m x at + (if b then x at.lengths else first_of s)) (sym is)
behind_at m x at s false is lt =
    ap (λ (b : Bool). at_time m x (if b then record { ticks = at.ticks; lengths = at.lengths + 1 }
    else record { ticks = at.ticks + first_of s; lengths = at.lengths })) is
    ∙ swap at.ticks (first_of s) (sum_below (λ i. once at.lengths i * x i) m)
    ∙ ap (λ (b : Bool). at_time m x at + (if b then x at.lengths else first_of s)) (sym is)

-- a border stands where it is drawn
pub stands_at : (m : ℕ) (x : ℕ → ℕ) (ats : List At) (borders : List Border) (b : ℕ) → AreBorders ats borders
    → stands 1 borders m x b ≡ place m x ats b
unfolding stands
stands_at m x [] [] b are = refl
stands_at m x [] (border ∷ borders) b are = absurd are
stands_at m x (at ∷ ats) [] b are = absurd are
stands_at m x (at ∷ ats) (border ∷ borders) zero are =
    let fixed : border.fixed * 1 ≡ at.ticks = omega (arith, are.0.fixed) in
    ap (λ (n : ℕ). n + sum_below (λ i. get_or border.times.items i 0 * x i) m) fixed
    ∙ ap (λ (l : List ℕ). at.ticks + sum_below (λ i. get_or l i 0 * x i) m) are.0.times
stands_at m x (at ∷ ats) (border ∷ borders) (suc b) are = stands_at m x ats borders b are.1
