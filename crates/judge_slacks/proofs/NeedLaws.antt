-- The least move inward, found between two.
use Rattle.std.proofs.Common.{◌≡◌, ◌≤◌, ◌<◌, ◌+◌, ◌*◌, ℕ, subst, arith, ⊎_elim}
use Rattle.std.proofs.lemmas.Bool.{cases_lt}
use Rattle.judge_slacks.specs.{Known.Known, declared.asked.Asked.Asked, declared.asked.Gap.Gap}
use Rattle.judge_slacks.specs.Asked.{CanMoveBy, IsAsked, IsCloser, IsGap, IsHeldBy, apart, move_at}
use Rattle.judge_slacks.specs.Needs.{IsLeastMove, NoMoveHolds}
use Rattle.judge_slacks.proofs.InwardLaws.{can_less, held_further_in, unmoved_off}

-- ---- the moves

pub first_move : (gap : Gap) → gap.near < gap.far → move_at gap 0 ≡ gap.near
first_move gap ordered = let none : 0 * apart gap ≡ 0 = omega arith in omega (arith, ordered, none)

pub last_move : (gap : Gap) → gap.near < gap.far → move_at gap 64 ≡ gap.far
last_move gap ordered = omega (arith, ordered)

next_product : (n a : ℕ) → (n + 1) * a ≡ n * a + a
next_product n a = grind arith

pub next_near : (gap : Gap) (n : ℕ) → move_at gap (n + 1) ≤ move_at gap n + apart gap
next_near gap n = let more = next_product n (apart gap) in omega (arith, more)

next_later : (gap : Gap) (n : ℕ) → move_at gap n ≤ move_at gap (n + 1)
next_later gap n = let more = next_product n (apart gap) in omega (arith, more)

-- ---- where it is held

module _ (known : Known) (of : Asked) (is : IsAsked of) where
  further : (m n : ℕ) → m ≤ n → CanMoveBy of n → IsHeldBy of m → IsHeldBy of n
  further m n le can held =
      held_further_in known of.compiled.line.now of.script.now of.terminal of.param of.side m n
      is.fits is.terminal is.param le can is.off held

  pub zero_off : IsHeldBy of 0 → ⊥
  zero_off held =
      unmoved_off known of.compiled.line.now of.script.now of.terminal of.param of.side is.fits
      is.terminal is.param is.off held

  -- a move with which it is held, behind one with which it is not
  pub closer_is : (gap : Gap) (n : ℕ) → (IsHeldBy of (move_at gap n) → ⊥)
      → IsHeldBy of (move_at gap (n + 1)) → CanMoveBy of (move_at gap (n + 1))
      → IsCloser of gap (record { near = move_at gap n; far = move_at gap (n + 1) })
  closer_is gap n off held can = record {
    is = record {
      ordered = ⊎_elim (λ lt. lt)
          (λ ge.
          let later = next_later gap n in
          let same : move_at gap (n + 1) ≡ move_at gap n = omega (arith, ge, later) in
          absurd (off (subst (IsHeldBy of) same held)))
          (cases_lt (move_at gap n) (move_at gap (n + 1)));
      can = can;
      off = off;
    };
    held = held;
    narrow = next_near gap n;
  }

  -- one tick behind a move with which it is not held
  pub least_is : (gap : Gap) → IsGap of gap → IsHeldBy of gap.far → gap.far ≤ gap.near + 1
      → IsLeastMove of.compiled.line.now of.script.now of.terminal of.param of.side gap.far
  least_is gap at held narrow = record {
    can = at.can;
    held = held;
    least = λ m lt on.
        let ordered = at.ordered in
        at.off (further m gap.near (omega (arith, lt, narrow))
        (can_less of.compiled.line.now of.param of.side gap.near gap.far (omega (arith, ordered))
        at.can) on);
  }

  -- with the furthest it is not held
  pub none_is : (far : ℕ) → ((n : ℕ) → CanMoveBy of n → n ≤ far) → CanMoveBy of far
      → (IsHeldBy of far → ⊥)
      → NoMoveHolds of.compiled.line.now of.script.now of.terminal of.param of.side
  none_is far most can off n can_n on = off (further n far (most n can_n) can on)
