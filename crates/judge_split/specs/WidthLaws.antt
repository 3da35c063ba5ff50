-- A parameter with a width is no delay, and its interval has more than one number.
use Rattle.std.proofs.Common.{◌≡◌, ◌<◌, ◌-◌, ℕ, Bool, true, false, cond, ap, arith}
use Rattle.std.specs.Prelude.{IsTrue}
use Rattle.model_line.specs.Parameters.{declared_ends, is_delay}
use Rattle.model_line.specs.declared.line.Line.{Line}
use Rattle.judge_split.specs.Widths.{width}

behind_a_test : (b : Bool) (n : ℕ) → 0 < cond b 0 n → 0 < n
behind_a_test true n lt = absurd (omega arith)
behind_a_test false n lt = lt

-- a parameter with a width is no delay
pub split_no_delay : (line : Line) (param : ℕ) → 0 < width line param
    → ¬ (IsTrue (is_delay line param))
unfolding width
split_no_delay line param free told =
    let none : width line param ≡ 0 =
    ap (λ (b : Bool).
    cond b 0 ((declared_ends line param).greatest - (declared_ends line param).least))
    told in
    absurd (omega arith)

pub split_free : (line : Line) (param : ℕ) → 0 < width line param
    → (declared_ends line param).least < (declared_ends line param).greatest
unfolding width
split_free line param free =
    let apart : 0 < (declared_ends line param).greatest - (declared_ends line param).least =
    behind_a_test (is_delay line param) _ free in
    omega arith
