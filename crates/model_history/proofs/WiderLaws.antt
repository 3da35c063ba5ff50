-- Over rails that cover, and spans that contain, each operation's rails cover.
use Rattle.std.proofs.Common.{ℕ, ◌-◌, ◌<◌, ◌≤◌, Bool, not, ◌&&◌, ◌||◌, arith}
use Rattle.std.specs.Prelude.{IsTrue}
use Rattle.model_history.specs.Rails.{Rails, Ends, both, rails_not, rails_and, rails_or}
use Rattle.model_history.specs.Rails.{rails_timed}
use Rattle.model_history.specs.Rails.{rails_sealed, rails_delayed, Covers, RailsCover, IsPartOf}
use Rattle.model_history.specs.Comes.{Comes, SomeComes}
use Rattle.model_history.proofs.Fields.{not_back}
use Rattle.model_history.proofs.ElementLaws.{timed-below, sealed-below}
use Rattle.model_history.proofs.DelayLaws.{Decides-must, Decides-may}
use Rattle.model_history.specs.RailLaws.{covers_both, both_covered}
use Rattle.model_history.specs.TruthLaws.{and_both, or_both}

-- ---- covering is an order

pub covers_itself : (x : Rails) → RailsCover x x
covers_itself x = record { must = λ h. h; may = λ h. h }

pub covers_on : (x y z : Rails) → RailsCover x y → RailsCover y z → RailsCover x z
covers_on x y z f g = record { must = λ h. g.must (f.must h); may = λ h. f.may (g.may h) }

-- what is covered by covered rails is covered
pub covers_value_on : (x y : Rails) (v : Bool) → RailsCover x y → Covers y v → Covers x v
covers_value_on x y v f g = record { must = λ h. g.must (f.must h); may = λ h. f.may (g.may h) }

-- ---- over rails

pub rails_not-wider : (x y : Rails) → RailsCover x y → RailsCover (rails_not x) (rails_not y)
rails_not-wider x y h = record {
  must = not_back y.may x.may h.may;
  may = not_back x.must y.must h.must;
}

pub rails_and-wider : (a b x y : Rails) → RailsCover a x → RailsCover b y →
    RailsCover (rails_and a b) (rails_and x y)
rails_and-wider a b x y f g = record {
  must = and_both a.must b.must x.must y.must f.must g.must;
  may = and_both x.may y.may a.may b.may f.may g.may;
}

pub rails_or-wider : (a b x y : Rails) → RailsCover a x → RailsCover b y →
    RailsCover (rails_or a b) (rails_or x y)
rails_or-wider a b x y f g = record {
  must = or_both a.must b.must x.must y.must f.must g.must;
  may = or_both x.may y.may a.may b.may f.may g.may;
}

pub rails_timed-wider : (u v : ℕ → Rails) (p q d e : Ends) (t : ℕ) →
    ((r : ℕ) → r ≤ t → RailsCover (u r) (v r)) → IsPartOf q p → IsPartOf e d →
    RailsCover (rails_timed u p d t) (rails_timed v q e t)
rails_timed-wider u v p q d e t h pickup dropout = record {
  must = timed-below (λ r. (u r).must) (λ r. (v r).must) p.greatest q.greatest d.least e.least t
      (λ r le. (h r le).must) pickup.greatest dropout.least;
  may = timed-below (λ r. (v r).may) (λ r. (u r).may) q.least p.least e.greatest d.greatest t
      (λ r le. (h r le).may) pickup.least dropout.greatest;
}

pub rails_sealed-wider : (a b u v : ℕ → Rails) (t : ℕ) →
    ((r : ℕ) → r ≤ t → RailsCover (a r) (u r)) → ((r : ℕ) → r ≤ t → RailsCover (b r) (v r)) →
    RailsCover (rails_sealed a b t) (rails_sealed u v t)
rails_sealed-wider a b u v t f g = record {
  must = sealed-below (λ r. (a r).must) (λ r. (b r).must) (λ r. (u r).must) (λ r. (v r).must) t
      (λ r le. (f r le).must) (λ r le. (g r le).must);
  may = sealed-below (λ r. (u r).may) (λ r. (v r).may) (λ r. (a r).may) (λ r. (b r).may) t
      (λ r le. (f r le).may) (λ r le. (g r le).may);
}

come_on : (u v : ℕ → Bool) (c t : ℕ) → 1 ≤ c → ((r : ℕ) → r < t → IsTrue (u r) → IsTrue (v r)) →
    Comes u c t → Comes v c t
come_on u v c t some on h = let past : c ≤ t = h.past in
    record { past = past; on = on (t - c) (omega arith) h.on }

-- a delay of at least 1 looks at earlier ticks only
pub rails_delayed-wider : (u v : ℕ → Rails) (wide narrow : Ends) (t : ℕ) → 1 ≤ wide.least →
    IsPartOf narrow wide → ((r : ℕ) → r < t → RailsCover (u r) (v r)) →
    RailsCover (rails_delayed u wide t) (rails_delayed v narrow t)
rails_delayed-wider u v wide narrow t some part h =
    let low : wide.least ≤ narrow.least = part.least in
    let high : narrow.greatest ≤ wide.greatest = part.greatest in
    record {
      must = λ on. (Decides-must v narrow t).1
          (λ c l g. come_on (λ r. (u r).must) (λ r. (v r).must) c t (omega arith)
          (λ r lt. (h r lt).must) ((Decides-must u wide t).0 on c (omega arith) (omega arith)));
      may = λ on. (
          let came : SomeComes (λ r. (v r).may) narrow t = (Decides-may v narrow t).0 on in
          let l : narrow.least ≤ came.c = came.least in
          let g : came.c ≤ narrow.greatest = came.greatest in
          (Decides-may u wide t).1 (record {
            c = came.c;
            least = omega arith;
            greatest = omega arith;
            comes = come_on (λ r. (v r).may) (λ r. (u r).may) came.c t (omega arith)
                (λ r lt. (h r lt).may) came.comes;
          })
          );
    }

-- ---- over a truth value: its own rails are both the same

pub not_covers : (x : Rails) (v : Bool) → Covers x v → Covers (rails_not x) (not v)
not_covers x v h = both_covered (rails_not x) (not v)
    (rails_not-wider x (both v) (covers_both x v h))

pub and_covers : (x y : Rails) (v w : Bool) → Covers x v → Covers y w →
    Covers (rails_and x y) (v && w)
and_covers x y v w f g = both_covered (rails_and x y) (v && w)
    (rails_and-wider x y (both v) (both w) (covers_both x v f) (covers_both y w g))

pub or_covers : (x y : Rails) (v w : Bool) → Covers x v → Covers y w →
    Covers (rails_or x y) (v || w)
or_covers x y v w f g = both_covered (rails_or x y) (v || w)
    (rails_or-wider x y (both v) (both w) (covers_both x v f) (covers_both y w g))
