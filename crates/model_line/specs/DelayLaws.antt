-- Each delay is a parameter, and is declared from 1 on.
use Rattle.std.proofs.Common.{◌≡◌, ℕ, ◌<◌, ◌≤◌, ap, subst, arith, eq-eqb}
use Rattle.std.proofs.lemmas.Bool.{eqb-true}
use Rattle.std.specs.Prelude.{◌==◌, IsTrue, unwrap_or}
use Rattle.model_line.specs.Parameters.{param_count, channel_count, delay_param, is_delay}
use Rattle.model_line.specs.Parameters.{declared_ends}
use Rattle.model_line.specs.{declared.line.Line.Line, NumberLaws.delay_number}
use Rattle.model_history.specs.BelowLaws.{some_below-some}
use Rattle.model_history.specs.BelowLaws.{some_below-where}

-- the number of a channel's delay is that of a parameter
pub delay_within : (line : Line) (c : ℕ) → c < channel_count line
    → delay_param line c < param_count line
delay_within line c lt =
    let n = delay_number line c lt in
    let is : delay_param line c ≡ n.0 = ap (λ o. unwrap_or o 0) n.1 in
    omega (arith, n.2)

-- a parameter with the number of a channel's delay is a delay
pub delay_at : (line : Line) (c i : ℕ) → c < channel_count line → delay_param line c ≡ i
    → IsTrue (is_delay line i)
unfolding is_delay
delay_at line c i lt same =
    some_below-some (λ k. delay_param line k == i) (channel_count line) c lt
    (eq-eqb (delay_param line c) i same)

-- and each delay has the number of some channel's
pub delay_where : (line : Line) (i : ℕ) → IsTrue (is_delay line i)
    → (c : ℕ) × (c < channel_count line) × (delay_param line c ≡ i)
unfolding is_delay
delay_where line i is =
    let (c, lt, passes) =
    some_below-where (λ k. delay_param line k == i) (channel_count line) is in
    (c, lt, eqb-true (delay_param line c) i passes)

-- so it is a parameter of the line
pub is_delay_within : (line : Line) (i : ℕ) → IsTrue (is_delay line i) → i < param_count line
is_delay_within line i is =
    let (c, lt, same) = delay_where line i is in
    subst (λ (n : ℕ). n < param_count line) same (delay_within line c lt)

-- and declared from 1 on
pub is_delay_from_one : (line : Line) (i : ℕ) → IsTrue (is_delay line i)
    → 1 ≤ (declared_ends line i).least
is_delay_from_one line i is =
    let (c, lt, same) = delay_where line i is in
    subst (λ (n : ℕ). 1 ≤ (declared_ends line n).least) same (line.delays_from_one c lt)
