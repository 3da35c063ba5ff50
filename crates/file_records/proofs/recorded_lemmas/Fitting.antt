-- The spans that records come to fit their line.
use Rattle.std.proofs.Common.{◌≡◌, ◌+◌, ◌-◌, ◌<◌, ◌≤◌, ◌++◌, ◌&&◌, ℕ, suc, zero, Bool, true, false}
use Rattle.std.proofs.Common.{List, [], ◌∷◌, refl, arith, length, not, cond}
use Rattle.std.proofs.lemmas.Bool.{and_parts}
use Rattle.std.specs.List.{list_all}
use Rattle.std.specs.Prelude.{nat_lt, nat_le}
use Rattle.model_history.specs.Each.{each_below}
use Rattle.model_line.specs.declared.line.Line.{Line}
use Rattle.model_line.specs.declared.script.{What.What, Element.Element}
use Rattle.model_line.specs.declared.script.Element.TheVariants.{Z1, Z2, Rv, Uv, Cur}
use Rattle.model_line.specs.declared.script.What.TheVariants as what
use Rattle.model_line.specs.{Fits.exists_in, Fits.span_fits, Parameters.terminal_count}
use Rattle.run_changes.specs.rows.PlayRows.{value_before}
use Rattle.file_records.specs.declared.map.source.Signal.TheVariants.{Shown}
use Rattle.file_records.specs.{tracks.Levels.is_on, tracks.Tracks.TrackValues}
use Rattle.file_records.specs.recorded.Spans.{begins_at, element_at, first_off, span_from, spans_of}
use Rattle.file_records.specs.recorded.Spans.{spans_told, terminal_spans}

all_both : {X : Type 0} (p : X → Bool) (xs ys : List X) → list_all p xs ≡ true
    → list_all p ys ≡ true → list_all p (xs ++ ys) ≡ true
all_both p [] ys here there = there
all_both p (x ∷ xs) ys here there =
    both_hold (p x) (list_all p xs) (list_all p (xs ++ ys)) here (λ rest. all_both p xs ys rest there)
  where
    both_hold : (a b c : Bool) → (a && b) ≡ true → (b ≡ true → c ≡ true) → (a && c) ≡ true
    both_hold true b c ab f = f ab
    both_hold false b c ab f = absurd (cc)

all_below : {X : Type 0} (p : X → Bool) (n : ℕ) (f : ℕ → List X)
    → ((k : ℕ) → k < n → list_all p (f k) ≡ true) → list_all p (each_below n f) ≡ true
all_below p zero f each = refl
all_below p (suc n) f each =
    all_both p (each_below n f) (f n) (all_below p n f (λ k less. each k (omega arith)))
    (each n (omega arith))

-- the first tick at which it is off is none before, and none behind the ticks
pub first_from : (on : ℕ → Bool) (t n : ℕ) → t ≤ first_off on t n
first_from on t zero = omega arith
first_from on t (suc n) = by_level (on t) (first_off on (t + 1) n) (first_from on (t + 1) n)
  where
    by_level : (b : Bool) (x : ℕ) → t + 1 ≤ x → t ≤ cond b x t
    by_level true x le = omega arith
    by_level false x le = omega arith

pub first_upto : (on : ℕ → Bool) (t n : ℕ) → first_off on t n ≤ t + n
first_upto on t zero = omega arith
first_upto on t (suc n) = by_level (on t) (first_off on (t + 1) n) (first_upto on (t + 1) n)
  where
    by_level : (b : Bool) (x : ℕ) → x ≤ t + 1 + n → cond b x t ≤ t + suc n
    by_level true x le = omega arith
    by_level false x le = omega arith

-- where it is on, it is off later
first_after : (on : ℕ → Bool) (t n : ℕ) → on t ≡ true → 0 < n → t < first_off on t n
first_after on t zero is some = absurd (omega arith)
first_after on t (suc n) is some =
    let later = first_from on (t + 1) n in
    rw is (omega (arith, later))

module _ (line : Line) (of : What) (there : exists_in line of ≡ true) where
  span_if : (b : Bool) (t to : ℕ) → (b ≡ true → t < to) → to ≤ line.horizon
      → list_all (span_fits line)
      (cond b (record { what = of; from = t; to = to } ∷ []) []) ≡ true
  span_if false t to less within = refl
  span_if true t to less within =
      let some : t < to = less refl in
      let first : nat_lt t to ≡ true = grind arith in
      let last : nat_le to line.horizon ≡ true = grind arith in
      rw (there, first, last) refl

  span_fit : (on : ℕ → Bool) (t : ℕ) → t < line.horizon
      → list_all (span_fits line) (span_from of on line.horizon t) ≡ true
  span_fit on t early =
      let upto = first_upto on t (line.horizon - t) in
      span_if (begins_at on t) t (first_off on t (line.horizon - t))
      (λ begins. first_after on t (line.horizon - t)
      (and_parts (on t) (not (value_before on t)) begins).0 (omega arith))
      (omega (arith, upto))

  all_spans_fit : (tracks : List TrackValues)
      → list_all (span_fits line) (spans_of tracks line.horizon of) ≡ true
  all_spans_fit tracks =
      all_below (span_fits line) line.horizon
      (span_from of (is_on tracks (Shown of)) line.horizon)
      (λ t early. span_fit (is_on tracks (Shown of)) t early)

element_fits : (line : Line) (tracks : List TrackValues) (element : Element) (k : ℕ)
    → k < terminal_count line
    → list_all (span_fits line) (spans_of tracks line.horizon (element_at element k)) ≡ true
element_fits line tracks element k inside =
    let there : exists_in line (element_at element k) ≡ true = grind arith in
    all_spans_fit line (element_at element k) there tracks

terminal_fits : (line : Line) (tracks : List TrackValues) (k : ℕ) → k < terminal_count line
    → list_all (span_fits line) (terminal_spans tracks line.horizon k) ≡ true
terminal_fits line tracks k inside =
    let p = span_fits line in
    let all = λ (e : Element). spans_of tracks line.horizon (element_at e k) in
    let fits = λ (e : Element). element_fits line tracks e k inside in
    all_both p (((all Z1 ++ all Z2) ++ all Rv) ++ all Uv) (all Cur)
    (all_both p ((all Z1 ++ all Z2) ++ all Rv) (all Uv)
    (all_both p (all Z1 ++ all Z2) (all Rv)
    (all_both p (all Z1) (all Z2) (fits Z1) (fits Z2)) (fits Rv)) (fits Uv)) (fits Cur)

loss_fits : (line : Line) (tracks : List TrackValues) (c : ℕ) → c < length line.channels.items
    → list_all (span_fits line) (spans_of tracks line.horizon (what.Loss c)) ≡ true
loss_fits line tracks c inside =
    let there : exists_in line (what.Loss c) ≡ true = grind arith in
    all_spans_fit line (what.Loss c) there tracks

pub told_fit : (line : Line) (tracks : List TrackValues)
    → list_all (span_fits line) (spans_told line tracks) ≡ true
told_fit line tracks =
    let p = span_fits line in
    let terminals = terminal_spans tracks line.horizon in
    let losses = λ (c : ℕ). spans_of tracks line.horizon (what.Loss c) in
    all_both p (each_below (terminal_count line) terminals) (each_below (length line.channels.items) losses)
    (all_below p (terminal_count line) terminals (terminal_fits line tracks))
    (all_below p (length line.channels.items) losses (loss_fits line tracks))
