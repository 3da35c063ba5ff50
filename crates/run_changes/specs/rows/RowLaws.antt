-- Texts that grow row by row.
use Rattle.std.proofs.Common.{◌≡◌, ℕ, zero, suc, ◌+◌, ◌<◌, ◌≤◌, Bool, List, ◌++◌}
use Rattle.std.proofs.Common.{refl, ◌∙◌, ap, arith, append_assoc}
use Rattle.std.specs.Prelude.{codes}
use Rattle.model_history.specs.EachLaws.{each_below-same}
use Rattle.model_line.specs.{declared.line.Line.Line, Parameters.terminal_count}
use Rattle.model_logic.specs.Histories.{History, IsSameHistory}
use Rattle.model_line.specs.NamesByNumber.{terminal_name}
use Rattle.run_changes.specs.rows.PlayRows.{change_row, value_before, signal_row}
use Rattle.run_changes.specs.rows.PlayRows.{terminal_rows, tick_rows, run_rows}

-- two texts more
pub two_texts_more : (pre mid new a b a' b' : List ℕ) → mid ≡ pre ++ a → new ≡ mid ++ b → a ≡ a'
    → b ≡ b' → new ≡ pre ++ (a' ++ b')
two_texts_more pre mid new a b a' b' first second same_a same_b =
    second
    ∙ ap (λ (l : List ℕ). l ++ b) first
    ∙ append_assoc pre a b
    ∙ ap (λ (l : List ℕ). pre ++ (l ++ b)) same_a
    ∙ ap (λ (l : List ℕ). pre ++ (a' ++ l)) same_b

-- ---- rows of histories that are the same

value_before-same : (u v : ℕ → Bool) (t : ℕ) → ((r : ℕ) → r < t → u r ≡ v r)
    → value_before u t ≡ value_before v t
value_before-same u v zero same = refl
value_before-same u v (suc t) same = same t (omega arith)

signal_row-same : (timing script : List ℕ) (t : ℕ) (terminal signal : List ℕ) (u v : ℕ → Bool)
    → ((r : ℕ) → r ≤ t → u r ≡ v r)
    → signal_row timing script t terminal signal u ≡ signal_row timing script t terminal signal v
signal_row-same timing script t terminal signal u v same =
    ap (λ (b : Bool). change_row timing script t terminal signal b (u t))
    (value_before-same u v t (λ r lt. same r (omega arith)))
    ∙ ap (change_row timing script t terminal signal (value_before v t)) (same t (omega arith))

-- the rows speak of the line's terminals and ticks alone
pub run_rows-same : (timing script : List ℕ) (line : Line) (g h : History) → IsSameHistory line g h
    → run_rows timing script line g ≡ run_rows timing script line h
run_rows-same timing script line g h same =
    each_below-same line.horizon (tick_rows timing script line g) (tick_rows timing script line h)
    (λ t early.
    each_below-same (terminal_count line) (terminal_rows timing script line g t)
    (terminal_rows timing script line h t)
    (λ k kn.
    let name : List ℕ = terminal_name line k in
    let key : List ℕ = codes "key" in
    let trip : List ℕ = codes "trip" in
    ap (λ (l : List ℕ). l ++ signal_row timing script t name trip (g.trip k))
    (signal_row-same timing script t name key (g.key k) (h.key k)
    (λ r le. same.keys k r kn (omega arith)))
    ∙ ap (λ (l : List ℕ). signal_row timing script t name key (h.key k) ++ l)
    (signal_row-same timing script t name trip (g.trip k) (h.trip k)
    (λ r le. same.trips k r kn (omega arith)))))
