-- Two trees whose rail no choice reaches.
use Rattle.std.proofs.Common.{◌&&◌, ◌≤◌, ℕ, zero, suc, Bool, true, false, not, refl, arith}
use Rattle.std.specs.Prelude.{IsTrue, IsFalse}
use Rattle.model_history.specs.{Elements.timed, Elements.hold, Elements.delayed}
use Rattle.model_history.specs.{Rails.rails_delayed}
use Rattle.model_history.specs.Rails.{both}
use Rattle.model_line.specs.declared.script.Place.{Place}
use Rattle.model_logic.specs.{Mean.mean, PairMean.pair_mean}
use Rattle.model_settle.specs.Limits.{small_pairs, small_world, first_tick, both_roles}
use Rattle.model_settle.specs.Limits.{both_rails}

never_both : (b : Bool) → IsFalse (b && not b)
never_both true = refl
never_both false = refl

pub roles_on : (p : Place)
    → IsTrue (pair_mean small_pairs (λ k t. both (first_tick t)) (both_roles p) 2).may
unfolding pair_mean timed hold
roles_on p = refl

pub roles_off : (p : Place) (number : ℕ) (delay : ℕ → ℕ) → number ≤ 2
    → IsFalse (mean (small_world number delay) (λ k t. first_tick t) (both_roles p) 2)
unfolding mean timed hold
roles_off p zero delay le = refl
roles_off p (suc zero) delay le = refl
roles_off p (suc (suc zero)) delay le = refl
roles_off p (suc (suc (suc n))) delay le = absurd (omega arith)

pub rails_on : IsTrue (pair_mean small_pairs (λ k t. both (first_tick t)) both_rails 1).may
unfolding pair_mean rails_delayed delayed
rails_on = refl

pub rails_off : (number : ℕ) (delay : ℕ → ℕ) (t : ℕ)
    → IsFalse (mean (small_world number delay) (λ k t. first_tick t) both_rails t)
unfolding mean
rails_off number delay t = never_both (delayed first_tick (delay t) t)
