-- Lists that are made one by one.
use Rattle.std.proofs.Common.{◌≡◌, ◌<◌, ◌≤◌, ◌+◌, ◌∷◌, ◌++◌, [], ℕ, zero, suc, Bool, false, List}
use Rattle.std.proofs.Common.{length, refl, sym, ◌∙◌, ap, subst, arith, ⊎_elim, length-append, get_or}
use Rattle.std.proofs.lemmas.Bool.{cases_lt}
use Rattle.std.proofs.lemmas.List.{get_or_push, get_or_append_left}
use Rattle.std.specs.Prelude.{Result, Ok, Err, IfOk}
use Rattle.std.specs.List.{AllZip}
use Rattle.judge_match.specs.{explain.Asked.AreLevels, explain.Asked.level_in, explain.Changes.changes, explain.Changes.StaysAround}
use Rattle.judge_match.proofs.explain_lemmas.ChangeLaws.{changes_same}

pub count_more : {X : Type 0} (xs ys : List X) (x : X) (n m : ℕ) → ys ≡ xs ++ x ∷ []
    → length xs ≡ n → m ≡ n + 1 → length ys ≡ m
count_more xs ys x n m is long next =
    ap length is ∙ length-append xs (x ∷ []) ∙ ap (λ k. k + 1) long ∙ sym next

-- what holds of each read below an index, and of the one there
pub read_more : {X : Type 0} (P : ℕ → X → Type 0) (xs ys : List X) (x d : X) (n : ℕ)
    → ys ≡ xs ++ x ∷ [] → length xs ≡ n → ((i : ℕ) → i < n → P i (get_or xs i d)) → P n x
    → (i : ℕ) → i < n + 1 → P i (get_or ys i d)
read_more P xs ys x d n is long before here i below = ⊎_elim
    (λ (early : i < n).
    let inside : i < length xs = omega (arith, long) in
    subst (P i)
    (sym (ap (λ zs. get_or zs i d) is ∙ get_or_append_left xs (x ∷ []) d i inside)) (before i early))
    (λ (late : n ≤ i).
    let e : i ≡ n = omega arith in
    subst (λ j. P j (get_or ys j d)) (sym e)
    (subst (P n) (sym (ap (λ zs. get_or zs n d) is ∙ get_or_push xs x d n long)) here))
    (cases_lt i n)

pub levels_more : (u : ℕ → Bool) (xs ys : List Bool) (b : Bool) (n m : ℕ) → ys ≡ xs ++ b ∷ []
    → m ≡ n + 1 → b ≡ u n → AreLevels n u xs → AreLevels m u ys
levels_more u xs ys b n m is next here so_far = record {
  count = count_more xs ys b n m is so_far.count next;
  same = λ t below.
      read_more (λ i x. x ≡ u i) xs ys b false n is so_far.count so_far.same here t
      (omega (arith, below, next));
}

pub no_levels : (u : ℕ → Bool) → AreLevels 0 u []
no_levels u = record { count = refl; same = λ t below. absurd (omega arith) }

-- two lists that go together at each place
pub zip_from : {X Y : Type 0} (R : X → Y → Type 0) (xs : List X) (ys : List Y) (d : X) (e : Y)
    → length xs ≡ length ys → ((i : ℕ) → i < length xs → R (get_or xs i d) (get_or ys i e))
    → AllZip R xs ys
zip_from R [] [] d e long each = tt
zip_from R [] (y ∷ ys) d e long each = absurd (omega (arith, long))
zip_from R (x ∷ xs) [] d e long each = absurd (omega (arith, long))
zip_from R (x ∷ xs) (y ∷ ys) d e long each = (
  each zero (omega arith),
  zip_from R xs ys d e (omega (arith, long))
      (λ i below. each (suc i) (omega arith)),
)

-- levels of a signal change where it does
pub levels_changes : (u : ℕ → Bool) (n : ℕ) (levels : List Bool) → AreLevels n u levels
    → changes (level_in levels) (length levels) ≡ changes u n
levels_changes u n levels are =
    ap (changes (level_in levels)) are.count ∙ changes_same (level_in levels) u n are.same

-- and stay where it does
pub levels_stay : (within n : ℕ) (u : ℕ → Bool) (levels : List Bool) (t : ℕ) (level : Bool)
    → AreLevels n u levels → StaysAround within (length levels) (level_in levels) t level
    → StaysAround within n u t level
levels_stay within n u levels t level are stays = record {
  ticks = λ r below early late.
      sym (are.same r below)
      ∙ stays.ticks r (omega (arith, below, are.count)) early late;
  start = stays.start;
}

-- what is Ok and meets one thing meets what follows from it
pub ok_weaker : {X E : Type 0} (P Q : X → Type 0) (r : Result X E) → ((x : X) → P x → Q x)
    → IfOk r P → IfOk r Q
ok_weaker P Q (Ok x) follows is = follows x is
ok_weaker P Q (Err e) follows is = is
