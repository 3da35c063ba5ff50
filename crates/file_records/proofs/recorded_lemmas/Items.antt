-- Loops, one step on.
use Rattle.std.proofs.Common.{◌≡◌, ◌+◌, ◌-◌, ◌<◌, ◌≤◌, ◌++◌, ℕ, suc, zero, Bool, true, false, List, []}
use Rattle.std.proofs.Common.{◌∷◌, refl, ap, sym, ◌∙◌, arith, append_assoc}
use Rattle.model_history.specs.Each.{each_below}
use Rattle.csv.specs.Writing.{row_text, default_writer}
use Rattle.file_tables.specs.script.Printed.{records_text}
use Rattle.file_records.specs.recorded.Spans.{first_off}

-- ---- the first tick at which a signal is off

module _ (on : ℕ → Bool) (u n : ℕ) (inside : u < n) where
  ticks_left : n - u ≡ suc (n - (u + 1))
  ticks_left = omega arith

  pub off_here : on u ≡ false → first_off on u (n - u) ≡ u
  off_here is_off = rw (ticks_left, is_off) refl

  pub off_later : on u ≡ true → first_off on u (n - u) ≡ first_off on (u + 1) (n - (u + 1))
  off_later is_on = rw (ticks_left, is_on) refl

pub off_end : (on : ℕ → Bool) (u n : ℕ) → n ≤ u → first_off on u (n - u) ≡ u
off_end on u n over = let none : n - u ≡ zero = omega arith in rw none refl

-- ---- texts of records

pub records_both : (xs ys : List (List (List ℕ)))
    → records_text (xs ++ ys) ≡ records_text xs ++ records_text ys
records_both [] ys = refl
records_both (x ∷ xs) ys =
    ap (λ (l : List ℕ). row_text default_writer x ++ l) (records_both xs ys)
    ∙ sym (append_assoc (row_text default_writer x) (records_text xs) (records_text ys))

pub rows_more : (pre old new : List ℕ) (f : ℕ → List (List (List ℕ))) (k : ℕ)
    → old ≡ pre ++ records_text (each_below k f) → new ≡ old ++ records_text (f k)
    → new ≡ pre ++ records_text (each_below (k + 1) f)
rows_more pre old new f k start step =
    let next : suc k ≡ k + 1 = omega arith in
    step
    ∙ ap (λ (l : List ℕ). l ++ records_text (f k)) start
    ∙ append_assoc pre (records_text (each_below k f)) (records_text (f k))
    ∙ ap (λ (l : List ℕ). pre ++ l) (sym (records_both (each_below k f) (f k)))
    ∙ ap (λ (m : ℕ). pre ++ records_text (each_below m f)) next
