-- Where no key and no trip changes there are no rows.
use Rattle.std.specs.Prelude.{[], Some, codes, slice_get}
use Rattle.std.proofs.Common.{◌≡◌, ◌<◌, ◌≤◌, ◌++◌, ℕ, zero, suc, Bool, true, false, List, refl, sym}
use Rattle.std.proofs.Common.{◌∙◌, ap, arith, ⊎_elim}
use Rattle.std.proofs.lemmas.Bool.{cases_lt}
use Rattle.std.proofs.lemmas.List.{append-nil}
use Rattle.model_history.specs.Each.{each_below}
use Rattle.model_line.specs.NamesByNumber.{terminal_name}
use Rattle.model_line.specs.{declared.line.Line.Line, Parameters.terminal_count}
use Rattle.run_signal.specs.SentKeys.{SentKeys}
use Rattle.run_signal.specs.declared.level.Level.{Level}
use Rattle.model_history.specs.ListLaws.{exists_at}
use Rattle.run_changes.specs.{changes.PlayedTracks.is_shown, changes.PlayedTracks.played}
use Rattle.run_changes.specs.rows.PlayRows.{change_row, value_before, signal_row}
use Rattle.run_changes.specs.rows.PlayRows.{terminal_rows, tick_rows}
use Rattle.run_changes.specs.rows.StandingLaws.{AllStand, no_change}
use Rattle.run_changes.specs.declared.rows.standing.Pair.{Pair}

no_texts : (n : ℕ) (f : ℕ → List ℕ) → ((k : ℕ) → k < n → f k ≡ []) → each_below n f ≡ []
no_texts zero f none = refl
no_texts (suc n) f none =
    ap (λ (l : List ℕ). l ++ f n) (no_texts n f (λ k lt. none k (omega arith)))
    ∙ none n (omega arith)

-- texts that are empty from n on
pub no_more_texts : (n m : ℕ) (f : ℕ → List ℕ) → n ≤ m
    → ((k : ℕ) → n ≤ k → k < m → f k ≡ []) → each_below n f ≡ each_below m f
no_more_texts n zero f le none = let e : n ≡ zero = omega arith in ap (λ (k : ℕ). each_below k f) e
no_more_texts n (suc m) f le none =
    ⊎_elim
    (λ low. let e : n ≡ suc m = omega arith in ap (λ (k : ℕ). each_below k f) e)
    (λ high.
    no_more_texts n m f high (λ k from to. none k from (omega arith))
    ∙ sym (append-nil (each_below m f))
    ∙ ap (λ (l : List ℕ). each_below m f ++ l) (sym (none m high (omega arith))))
    (cases_lt m n)

unchanged : (timing script : List ℕ) (t : ℕ) (terminal signal : List ℕ) (level : Bool)
    → change_row timing script t terminal signal level level ≡ []
unchanged timing script t terminal signal true = refl
unchanged timing script t terminal signal false = refl

no_row : (timing script : List ℕ) (r : ℕ) (terminal signal : List ℕ) (u : ℕ → Bool)
    → value_before u r ≡ u r → signal_row timing script r terminal signal u ≡ []
no_row timing script r terminal signal u same =
    ap (λ (b : Bool). change_row timing script r terminal signal b (u r)) same
    ∙ unchanged timing script r terminal signal (u r)

-- there are none at a tick before any of the changes that are told
pub no_rows : (timing script : List ℕ) (line : Line) (keys trips : List (SentKeys Level)) (t r : ℕ)
    (pairs : List Pair) → AllStand (terminal_count line) t keys trips pairs
    → ((k : ℕ) (p : Pair) → slice_get pairs k ≡ Some p → (r < p.key.until) × (r < p.trip.until))
    → t ≤ r → tick_rows timing script line (played keys trips) r ≡ []
no_rows timing script line keys trips t r pairs stand before low =
    no_texts (terminal_count line) (terminal_rows timing script line (played keys trips) r)
    (λ k there.
    let (p, at) = exists_at pairs k (omega (arith, stand.count)) in
    let both = stand.each k p at in
    let name = terminal_name line k in
    ap (λ (l : List ℕ). l ++ signal_row timing script r name (codes "trip") (is_shown trips k))
    (no_row timing script r name (codes "key") (is_shown keys k)
    (no_change both.key r low (before k p at).0))
    ∙ no_row timing script r name (codes "trip") (is_shown trips k)
    (no_change both.trip r low (before k p at).1))
