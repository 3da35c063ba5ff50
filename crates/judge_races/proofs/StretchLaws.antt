-- Stretches of ticks at which a signal is on, by the ticks at which it is off.
use Rattle.std.proofs.Common.{◌≡◌, ◌≤◌, ◌<◌, ◌+◌, ◌-◌, ◌∙◌, ap, ℕ, Bool, arith, ⊎_elim}
use Rattle.std.proofs.lemmas.Bool.{cases_lt}
use Rattle.std.specs.Prelude.{IsFalse}
use Rattle.model_history.specs.TruthLaws.{not_both}
use Rattle.judge_races.specs.Stretches.{IsOffFrom, IsStretch}

-- a stretch ends before it is off
pub stretch_short : (u : ℕ → Bool) (n from ticks off : ℕ) → IsOffFrom u n from off
    → IsStretch u n from ticks → ticks ≤ off - from
stretch_short u n from ticks off is s =
    ⊎_elim
    (λ lt. absurd (not_both (u off) (is.off (omega (arith, lt, s.within)))
    (s.on off is.later lt)))
    (λ ge. omega (arith, ge, is.later))
    (cases_lt off (from + ticks))

-- from a tick on until it is off is one
pub stretch_there : (u : ℕ → Bool) (n from ticks off : ℕ) → IsOffFrom u n from off
    → off - from ≡ ticks → 1 ≤ ticks → IsStretch u n from ticks
stretch_there u n from ticks off is e some = record {
  some = some;
  within = omega (arith, e, is.within, some);
  on = λ r low high. is.on r low (omega (arith, e, high, some));
}

-- where no tick is before the one at which it is off, it is off
pub off_here : (u : ℕ → Bool) (n r off : ℕ) → IsOffFrom u n r off → off - r ≤ 0 → r < n
    → IsFalse (u r)
off_here u n r off is none within =
    let e : r ≡ off = omega (arith, none, is.later) in
    ap u e ∙ is.off (omega (arith, e, within))
