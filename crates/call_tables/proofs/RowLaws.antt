-- The rows of a script, and the obligation of each.
use Rattle.std.proofs.Common.{◌≡◌, ◌<◌, ◌≤◌, ◌+◌, ◌*◌, ◌-◌, ℕ, List, Some, length, drop, get_or, refl}
use Rattle.std.proofs.Common.{sym, ◌∙◌, ap, subst, arith, ⊎_elim}
use Rattle.std.proofs.lemmas.Bool.{cases_lt}
use Rattle.std.proofs.lemmas.List.{length-take-le, length-drop, get_or-take, get_or-drop}
use Rattle.std.proofs.lemmas.Option.{slice_get_read, slice_get_within, get_or_from_slice_get}
use Rattle.std.specs.Prelude.{slice_get}
use Rattle.std.proofs.lemmas.Nat.{row_fits}
use Rattle.model_line.specs.{declared.line.Line.Line, declared.script.Script.Script}
use Rattle.model_line.specs.Parameters.{terminal_count}
use Rattle.judge_settle.specs.settle.Answers.{IsAnswer}
use Rattle.call_tables.specs.declared.row.Row.{Row}
use Rattle.call_tables.specs.{Rows.AreRows, Rows.IsRow, Written.rows_of}

-- the k-th row of script s: it is of that script at terminal k, with what is known there
pub record IsRowAt (line : Line) (scripts : List Script) (s k : ℕ) (row : Row) : Type 0 where
  pub script : Script
  pub at : slice_get scripts s ≡ Some script
  pub terminal : row.terminal ≡ k
  pub below : k < terminal_count line
  pub answer : IsAnswer line script k row.settled.answer

-- a number is at one place in one row of a table alone
same_place : (a b c d t : ℕ) → a * t + b ≡ c * t + d → b < t → d < t → (a ≡ c) × (b ≡ d)
same_place a b c d t is low high =
    ⊎_elim (λ less. absurd (omega (arith, row_fits a t c t less (omega arith))))
    (λ from.
    ⊎_elim (λ more. absurd (omega (arith, row_fits c t a t more (omega arith))))
    (λ upto.
    let same : a ≡ c = omega arith in
    let product : a * t ≡ c * t = ap (λ (n : ℕ). n * t) same in
    (same, omega arith))
    (cases_lt c a))
    (cases_lt a c)

module _ (line : Line) (scripts : List Script) (rows : List Row) (s : ℕ)
    (are : AreRows line scripts rows) (early : s < length scripts) where
  -- a script has as many rows as the line has terminals
  pub rows_end : s * terminal_count line + terminal_count line ≤ length rows
  rows_end = omega (
    arith,
    are.count,
    row_fits s (terminal_count line) (length scripts) (terminal_count line) early (omega arith),
  )

  pub rows_long : length (rows_of line rows s) ≡ terminal_count line
  rows_long =
      let t : ℕ = terminal_count line in
      let first : ℕ = s * t in
      length-take-le ((first + t) - first) (drop first rows)
      (omega (arith, length-drop first rows, rows_end))
      ∙ omega arith

  -- row k of a script is row k of all rows from its first on
  at_whole : (k : ℕ) (row : Row) → slice_get (rows_of line rows s) k ≡ Some row
      → slice_get rows (s * terminal_count line + k) ≡ Some row
  at_whole k row at =
      let t : ℕ = terminal_count line in
      let first : ℕ = s * t in
      let below : k < t =
      omega (arith, slice_get_within (rows_of line rows s) k row at, rows_long) in
      let is : row ≡ get_or rows (first + k) row =
      sym (get_or_from_slice_get (rows_of line rows s) k row row at)
      ∙ get_or-take ((first + t) - first) (drop first rows) k row (omega arith)
      ∙ get_or-drop first rows k row in
      slice_get_read rows (length rows) (first + k) row refl (omega (arith, rows_end)) is

  pub row_at : (k : ℕ) (row : Row) → slice_get (rows_of line rows s) k ≡ Some row
      → IsRowAt line scripts s k row
  row_at k row at =
      let t : ℕ = terminal_count line in
      let below : k < t =
      omega (arith, slice_get_within (rows_of line rows s) k row at, rows_long) in
      let is : IsRow line scripts (s * t + k) row =
      are.each (s * t + k) row (at_whole k row at) in
      let same : (s ≡ row.script) × (k ≡ row.terminal) =
      same_place s k row.script row.terminal t is.place below is.terminal in
      record {
        script = is.script;
        at = ap (λ (i : ℕ). slice_get scripts i) same.0 ∙ is.at;
        terminal = sym same.1;
        below = below;
        answer = subst (λ (i : ℕ). IsAnswer line is.script i row.settled.answer) (sym same.1)
            is.answered.answer;
      }
