-- What must be may be: each operation keeps it.
use Rattle.std.proofs.Common.{ℕ, ◌≤◌}
use Rattle.model_history.specs.Rails.{Rails, Ends, IsSound, rails_not, rails_and, rails_or}
use Rattle.model_history.specs.Rails.{rails_timed}
use Rattle.model_history.specs.Rails.{rails_sealed}
use Rattle.model_history.proofs.Fields.{not_back}
use Rattle.model_history.proofs.ElementLaws.{timed-below, sealed-below}
use Rattle.model_history.specs.TruthLaws.{and_both, or_both}

pub not_sound : (x : Rails) → IsSound x → IsSound (rails_not x)
not_sound x h = not_back x.must x.may h

pub and_sound : (x y : Rails) → IsSound x → IsSound y → IsSound (rails_and x y)
and_sound x y f g = and_both x.must y.must x.may y.may f g

pub or_sound : (x y : Rails) → IsSound x → IsSound y → IsSound (rails_or x y)
or_sound x y f g = or_both x.must y.must x.may y.may f g

pub timed_sound : (u : ℕ → Rails) (p d : Ends) (t : ℕ) → p.least ≤ p.greatest →
    d.least ≤ d.greatest → ((r : ℕ) → r ≤ t → IsSound (u r)) → IsSound (rails_timed u p d t)
timed_sound u p d t pickup dropout h = timed-below (λ r. (u r).must)
    (λ r. (u r).may) p.greatest p.least d.least d.greatest t h pickup dropout

pub sealed_sound : (a b : ℕ → Rails) (t : ℕ) → ((r : ℕ) → r ≤ t → IsSound (a r)) →
    ((r : ℕ) → r ≤ t → IsSound (b r)) → IsSound (rails_sealed a b t)
sealed_sound a b t f g = sealed-below (λ r. (a r).must) (λ r. (b r).must) (λ r. (a r).may)
    (λ r. (b r).may) t f g
