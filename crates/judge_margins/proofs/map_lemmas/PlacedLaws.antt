-- What is placed differs in its intervals alone.
use Rattle.std.proofs.Common.{◌≡◌, ◌≤◌, ◌+◌, ℕ, zero, suc, List, Some, length, arith}
use Rattle.model_history.specs.ListLaws.{exists_at}
use Rattle.model_line.specs.{declared.line.Line.Line, SetBounds.SameButParams}
use Rattle.std.proofs.Common.{subst}
use Rattle.std.specs.Prelude.{slice_get}
use Rattle.model_line.specs.WithBounds.{IsWithBounds}
use Rattle.model_line.specs.SameLineLaws.{on_from}
use Rattle.judge_margins.specs.map.Placed.{IsPlaced, width_of}

pub placed_rest : (line other : Line) (params : List ℕ) (least n : ℕ) → n ≤ length params
    → IsPlaced line params least n other → SameButParams line other
placed_rest line other params least zero le is = is.rest
placed_rest line other params least (suc n) le is =
    let (param, at) = exists_at params n (omega (arith, le)) in
    on_from line is.0 other
    (placed_rest line is.0 params least n (omega (arith, le)) is.1)
    (is.2 param at).rest

-- one more
pub one_more : (line before other : Line) (params : List ℕ) (least n : ℕ)
    → IsPlaced line params least n before
    → ((param : ℕ) → slice_get params n ≡ Some param
    → IsWithBounds before param least (least + width_of line param) other)
    → IsPlaced line params least (n + 1) other
one_more line before other params least n is now =
    let all : IsPlaced line params least (suc n) other = (before, is, now) in
    let next : suc n ≡ n + 1 = omega arith in
    subst (λ (m : ℕ). IsPlaced line params least m other) next all
