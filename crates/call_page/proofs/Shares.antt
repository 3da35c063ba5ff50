-- An obligation that fails is not open.
use Rattle.std.proofs.Common.{◌≡◌, ◌≤◌, ◌+◌, List, [], ◌∷◌, length, arith}
use Rattle.std.proofs.lemmas.List.Sums.{sum_by-cons}
use Rattle.std.specs.Prelude.{cond, count_by}
use Rattle.judge_settle.specs.declared.settle.answer.Answer.{Answer}
use Rattle.judge_settle.specs.declared.settle.answer.Answer.TheVariants.{Held, Fails, Open}
use Rattle.judge_settle.specs.settle.Answers.{is_failing as fails_so, is_open as is_left}
use Rattle.call_tables.specs.Table.{is_failing, is_open}
use Rattle.call_tables.specs.declared.row.Row.{Row}

one_at_most : (answer : Answer) → cond (fails_so answer) 1 0 + cond (is_left answer) 1 0 ≤ 1
one_at_most (Held nodes) = omega arith
one_at_most (Fails timing every) = omega arith
one_at_most (Open nodes) = omega arith

-- so together they are no more than all
pub shares_within : (rows : List Row) → count_by is_failing rows + count_by is_open rows ≤ length rows
shares_within [] = omega arith
shares_within (row ∷ more) =
    let first : cond (is_failing row) 1 0 + cond (is_open row) 1 0 ≤ 1 = one_at_most row.settled.answer in
    let fails : count_by is_failing (row ∷ more) ≡ cond (is_failing row) 1 0 + count_by is_failing more = sum_by-cons (λ (r : Row). cond (is_failing r) 1 0) row more in
    let left : count_by is_open (row ∷ more) ≡ cond (is_open row) 1 0 + count_by is_open more = sum_by-cons (λ (r : Row). cond (is_open r) 1 0) row more in
    omega (arith, first, fails, left, shares_within more)
