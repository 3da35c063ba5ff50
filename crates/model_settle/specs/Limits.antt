-- Where a number is asked for at both ends, or a channel is read on both rails, no choice need reach
-- the rail: two small trees.
use Rattle.std.specs.Prelude.{◌≤◌, ◌==◌, ℕ, Bool, false, IsTrue, IsFalse}
use Rattle.model_history.specs.Rails.{Ends, both}
use Rattle.model_logic.specs.Tree.{Tree, Seen, Raw, Not, And, Timer}
use Rattle.model_logic.specs.Mean.{World, mean}
use Rattle.model_logic.specs.PairMean.{PairWorld, pair_mean}
use Rattle.model_logic.specs.declared.time.Time.TheVariants.{Param}
use Rattle.model_line.specs.declared.script.Place.{Place}

-- each place is on at tick 0 alone, and so is each key; numbers go from 0 to 2, delays from 1 to 2
abbrev pub first_tick : ℕ → Bool
first_tick t = t == 0

abbrev pub one_or_two : Ends
one_or_two = record { least = 1; greatest = 2 }

abbrev pub small_pairs : PairWorld
small_pairs = record {
  seen = λ p t. both (first_tick t);
  lost = λ c t. both false;
  from = λ c. 0;
  delay = λ c t. one_or_two;
  time = λ x. record { least = 0; greatest = 2 };
}

-- the world of one number, and of one delay at each tick
abbrev pub small_world : ℕ → (ℕ → ℕ) → World
small_world number delay = record {
  seen = λ p t. first_tick t;
  lost = λ c t. false;
  from = λ c. 0;
  delay = λ c t. delay t;
  time = λ x. number;
}

-- one parameter as the pickup and the dropout of one timer, read on one rail alone
abbrev pub both_roles : Place → Tree
both_roles p = Timer (Seen p) (Param 0) (Param 0)

-- one channel on both rails
abbrev pub both_rails : Tree
both_rails = And (Raw 0) (Not (Raw 0))

-- the may rail is on, and no choice is
pub record RailsAreNotReached : Type 0 where
  pub roles_may : (p : Place)
      → IsTrue (pair_mean small_pairs (λ k t. both (first_tick t)) (both_roles p) 2).may
  pub roles_never : (p : Place) (number : ℕ) (delay : ℕ → ℕ) → number ≤ 2
      → IsFalse (mean (small_world number delay) (λ k t. first_tick t) (both_roles p) 2)
  pub rails_may : IsTrue (pair_mean small_pairs (λ k t. both (first_tick t)) both_rails 1).may
  pub rails_never : (number : ℕ) (delay : ℕ → ℕ) (t : ℕ)
      → IsFalse (mean (small_world number delay) (λ k t. first_tick t) both_rails t)
