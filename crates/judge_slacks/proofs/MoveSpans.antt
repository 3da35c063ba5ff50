-- The lanes of a span, one lane more.
use Rattle.std.proofs.Common.{◌≡◌, ◌≤◌, ◌<◌, ◌+◌, ◌∙◌, ℕ, List, length, ap, sym, arith, ⊎_elim}
use Rattle.std.proofs.lemmas.List.{get_or-set_other}
use Rattle.std.proofs.lemmas.Grind.{get_or-set_at}
use Rattle.std.specs.Prelude.{slice_index, slice_set, ◌⊎◌}
use Rattle.model_history.specs.Rails.{Ends}
use Rattle.judge_verdict.specs.boxes.Spans.{SpanLists, span_ends}

pub before_or_here : (i n : ℕ) → i < n + 1 → (i < n) ⊎ (i ≡ n)
before_or_here i n lt = grind arith

pub set_more : (xs : List ℕ) (f : ℕ → ℕ) (n x : ℕ) → n < length xs
    → ((k : ℕ) → k < n → slice_index xs k ≡ f k) → x ≡ f n → (k : ℕ) → k < n + 1
    → slice_index (slice_set xs n x) k ≡ f k
set_more xs f n x short all is k lt =
    ⊎_elim
    (λ early. get_or-set_other xs n k x 0 (λ same. absurd (omega (arith, early, same))) ∙ all k early)
    (λ last. get_or-set_at xs n k x 0 last short ∙ is ∙ ap f (sym last))
    (before_or_here k n lt)

pub order_more : (xs ys : List ℕ) (n x y : ℕ) → n < length xs → n < length ys
    → ((k : ℕ) → k < n → slice_index xs k ≤ slice_index ys k) → x ≤ y → (k : ℕ) → k < n + 1
    → slice_index (slice_set xs n x) k ≤ slice_index (slice_set ys n y) k
order_more xs ys n x y short long all le k lt =
    ⊎_elim
    (λ early.
    let a = get_or-set_other xs n k x 0 (λ same. absurd (omega (arith, early, same))) in
    let b = get_or-set_other ys n k y 0 (λ same. absurd (omega (arith, early, same))) in
    let c = all k early in omega (arith, a, b, c))
    (λ last.
    let a = get_or-set_at xs n k x 0 last short in
    let b = get_or-set_at ys n k y 0 last long in omega (arith, a, b, le))
    (before_or_here k n lt)

-- a span that has these ends in each lane
pub ends_are : (span : SpanLists) (least greatest : List ℕ) (f : ℕ → Ends)
    → span ≡ record { least = least; greatest = greatest }
    → ((k : ℕ) → k < 64 → slice_index least k ≡ (f k).least)
    → ((k : ℕ) → k < 64 → slice_index greatest k ≡ (f k).greatest) → (lane : ℕ) → lane < 64
    → span_ends span lane ≡ f lane
ends_are span least greatest f is by_least by_greatest lane inside =
    let low : ℕ → Ends = λ n. record { least = n; greatest = slice_index greatest lane } in
    let high : ℕ → Ends = λ n. record { least = (f lane).least; greatest = n } in
    ap (λ (s : SpanLists). span_ends s lane) is ∙ ap low (by_least lane inside)
    ∙ ap high (by_greatest lane inside)
