-- There is at most one first number that fails, and one first tick at which a signal is on.
use Rattle.std.proofs.Common.{◌≡◌, ℕ, Bool, arith}
use Rattle.model_history.specs.{TruthLaws.not_both, BelowLaws.neither_below}
use Rattle.run_waves.specs.{waves.FirstTick.IsFirstOnAt, derived.Firsts.IsFirstFailing}

pub first_failing_once : (fact : ℕ → Type 0) (count n m : ℕ) → IsFirstFailing fact count n
    → IsFirstFailing fact count m → n ≡ m
first_failing_once fact count n m a b =
    neither_below n m (λ lt. a.fails (b.before n lt)) (λ lt. b.fails (a.before m lt))

pub first_on_once : (u : ℕ → Bool) (end n m : ℕ) → IsFirstOnAt u 0 end n → IsFirstOnAt u 0 end m
    → n ≡ m
first_on_once u end n m a b =
    neither_below n m (λ lt. not_both (u n) (b.before n (omega arith) lt) a.on)
    (λ lt. not_both (u m) (a.before m (omega arith) lt) b.on)
