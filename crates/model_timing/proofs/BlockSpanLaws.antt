-- A span that is set lane by lane.
use Rattle.std.proofs.Common.{◌≡◌, ℕ, ◌+◌, ◌-◌, ◌*◌, ◌<◌, ◌≤◌, ◌&&◌, ◌==◌, true, cond, List, [], ◌∷◌}
use Rattle.std.proofs.Common.{◌++◌, length-append, get_or, sym, ◌∙◌, ap, subst, arith, ⊎_elim}
use Rattle.std.proofs.Common.{below_more}
use Rattle.std.proofs.lemmas.Bool.{lt-ltb}
use Rattle.std.proofs.lemmas.Bool.Decides.{nat_tests}
use Rattle.std.proofs.lemmas.List.{get_or-map, get_or_append_left, get_or_push}
use Rattle.std.proofs.lemmas.List.Sums.{count_by_more_yes, sum_by-take-le, count_by-le-length}
use Rattle.std.proofs.lemmas.Option.{slice_get_cases}
use Rattle.std.specs.Prelude.{nat_le, nat_lt, if◌then◌else◌}
use Rattle.model_line.specs.Parameters.{param_count, declared_ends}
use Rattle.model_line.specs.{declared.line.Line.Line, declared.line.Param.Param}
use Rattle.model_line.specs.Laws.{ParametersAreNumbered}
use Rattle.model_timing.specs.Candidates.{is_free, free_before, free_count}
use Rattle.model_timing.specs.Blocks.{IsBlockSpan, AreBlockSpans}

-- ---- how many are free

pub few_before : ParametersAreNumbered → (line : Line) (i : ℕ) → free_before line i ≤ 63
few_before numbered line i =
    let few : param_count line ≤ 63 = numbered.few line in
    let free = count_by-le-length is_free line.params.items in
    let part = sum_by-take-le (λ p. cond (is_free p) 1 0) line.params.items i in
    omega arith

counted_once : (line : Line) (i : ℕ) (p : Param) → i < param_count line
    → is_free (get_or line.params.items i p) ≡ true → free_before line i + 1 ≤ free_count line
counted_once line i p inside free =
    let params = line.params.items in
    let more = count_by_more_yes is_free params i p inside free in
    let all = sum_by-take-le (λ q. cond (is_free q) 1 0) params (i + 1) in
    omega arith

-- a parameter that is free is one of them
pub one_free_more : (line : Line) (i : ℕ) → i < param_count line
    → (declared_ends line i).least < (declared_ends line i).greatest
    → free_before line i + 1 ≤ free_count line
one_free_more line i inside apart =
    let params = line.params.items in
    ⊎_elim
    (λ (p, there, at, is).
    let low = get_or-map (λ q. q.least) params i p 0 inside in
    let high = get_or-map (λ q. q.greatest) params i p 0 inside in
    let free : is_free (get_or params i p) ≡ true = lt-ltb _ _ (omega arith) in
    counted_once line i p inside free)
    (λ past. let beyond = past.0 in absurd (omega arith))
    (slice_get_cases params i).1

-- ---- the number of a parameter in a candidate

-- where so many are free, and so many of those before it
abbrev pub number_of : ℕ → ℕ → ℕ → ℕ → ℕ → ℕ
number_of free before least greatest index =
    if index == 0 then least
    else if index == 1 then greatest
    else if nat_le index (1 + free)
    then (if nat_lt least greatest && (before + 1 == index - 1) then greatest else least)
    else (if nat_lt least greatest && (before + 1 == index - 1 - free) then least else greatest)

-- in the n-th candidate or else the last
abbrev pub number_at_last : ℕ → ℕ → ℕ → ℕ → ℕ → ℕ
number_at_last free before least greatest n =
    number_of free before least greatest
    (if nat_lt n (2 + 2 * free) then n else 2 + 2 * free - 1)

pub all_same : (free before least greatest n : ℕ) → least ≡ greatest
    → least ≡ number_at_last free before least greatest n
all_same free before least greatest n same = grind (arith, nat_tests)

pub read_same : (free before least greatest n m b l g : ℕ) → free ≡ m → before ≡ b → least ≡ l
    → greatest ≡ g → number_at_last free before least greatest n ≡ number_at_last m b l g n
read_same free before least greatest n m b l g e f p q = cc

-- what is set in a lane before the last candidates
abbrev mostly : ℕ → ℕ → ℕ → ℕ → ℕ → ℕ
mostly free before least greatest n =
    if n == 2 + before then greatest
    else (if nat_le (2 + free) n then greatest else (if n == 1 then greatest else least))

set_last : (free before least greatest n : ℕ) → least < greatest → before + 1 ≡ free
    → (if nat_le (1 + 2 * free) n then least else mostly free before least greatest n)
    ≡ number_at_last free before least greatest n
set_last free before least greatest n apart last = grind (arith, nat_tests)

set_other : (free before least greatest n : ℕ) → least < greatest → before + 1 < free
    → (if n == 2 + before + free then least else mostly free before least greatest n)
    ≡ number_at_last free before least greatest n
set_other free before least greatest n apart other = grind (arith, nat_tests)

module _ (free before least greatest n u v w x : ℕ) (apart : least < greatest) (start : u ≡ least)
    (second : v ≡ (if n == 1 then greatest else u))
    (late : w ≡ (if nat_le (2 + free) n then greatest else v))
    (own : x ≡ (if n == 2 + before then greatest else w)) where
  three_set : x ≡ mostly free before least greatest n
  three_set =
      own
      ∙ ap (λ (k : ℕ). if n == 2 + before then greatest else k)
      (late
      ∙ ap (λ (k : ℕ). if nat_le (2 + free) n then greatest else k)
      (second ∙ ap (λ (k : ℕ). if n == 1 then greatest else k) start))

  pub all_set_last : (y : ℕ) → before + 1 ≡ free
      → y ≡ (if nat_le (1 + 2 * free) n then least else x)
      → y ≡ number_at_last free before least greatest n
  all_set_last y last is =
      is
      ∙ ap (λ (k : ℕ). if nat_le (1 + 2 * free) n then least else k) three_set
      ∙ set_last free before least greatest n apart last

  pub all_set_other : (y : ℕ) → before + 1 < free
      → y ≡ (if n == 2 + before + free then least else x)
      → y ≡ number_at_last free before least greatest n
  all_set_other y other is =
      is
      ∙ ap (λ (k : ℕ). if n == 2 + before + free then least else k) three_set
      ∙ set_other free before least greatest n apart other

-- ---- spans of one parameter more

pub one_span_more : (line : Line) (first n : ℕ) (xs new : List (List ℕ)) (x : List ℕ)
    → new ≡ xs ++ x ∷ [] → IsBlockSpan line first n x → AreBlockSpans line first n xs
    → AreBlockSpans line first (n + 1) new
one_span_more line first n xs new x is here so_far =
    let count = so_far.count in
    subst (AreBlockSpans line first (n + 1)) (sym is)
    (record {
      count = length-append xs (x ∷ []) ∙ ap (λ (k : ℕ). k + 1) count;
      each = below_more (λ k. IsBlockSpan line first k (get_or (xs ++ x ∷ []) k [])) n
          (λ k before.
          subst (IsBlockSpan line first k) (sym (get_or_append_left xs (x ∷ []) [] k (omega arith)))
          (so_far.each k before))
          (subst (IsBlockSpan line first n) (sym (get_or_push xs x [] n count)) here);
    })
