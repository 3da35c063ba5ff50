-- From the lists that cells stand for to histories as functions of the tick, and covering.
use Rattle.std.proofs.Common.{◌≡◌, ℕ, suc, ◌+◌, ◌<◌, ◌≤◌, Bool, List, [], ◌∷◌, ◌++◌, length}
use Rattle.std.proofs.Common.{take, get_or-take, refl, ◌∙◌, ap, arith}
use Rattle.std.specs.Prelude.{false}
use Rattle.model_history.specs.Rails.{Rails, Ends, Covers, both, must_of, may_of, rails_timed}
use Rattle.model_history.specs.Rails.{rails_sealed, rails_at, SameRails}
use Rattle.model_history.specs.FirstTickLaws.{length-first_ticks, get_or-first_ticks}
use Rattle.model_history.specs.{Elements.timed, Elements.sealed, Recorded.first_ticks}
use Rattle.model_history.proofs.ElementLaws.{timed-same, timed-below, sealed-same, sealed-below}

-- reading the first n ticks gives the history back
pub rails_at-first_ticks : (u : ℕ → Rails) (n r : ℕ) → r < n → rails_at (first_ticks u n) r ≡ u r
rails_at-first_ticks u n r lt = get_or-first_ticks u n r (both false) lt

pub rails_timed-same : (u v : ℕ → Rails) (p d : Ends) (t : ℕ) → SameRails u v t →
    rails_timed u p d t ≡ rails_timed v p d t
rails_timed-same u v p d t h =
    ap (λ (b : Bool). record { must = b; may = timed (λ r. (u r).may) p.least d.greatest t })
    (timed-same (λ r. (u r).must) (λ r. (v r).must) p.greatest d.least t
    (λ r le. ap must_of (h r le)))
    ∙ ap (λ (b : Bool). record { must = timed (λ r. (v r).must) p.greatest d.least t; may = b })
    (timed-same (λ r. (u r).may) (λ r. (v r).may) p.least d.greatest t
    (λ r le. ap may_of (h r le)))

pub rails_sealed-same : (a b u v : ℕ → Rails) (t : ℕ) → SameRails a u t → SameRails b v t →
    rails_sealed a b t ≡ rails_sealed u v t
rails_sealed-same a b u v t f g =
    ap (λ (x : Bool). record { must = x; may = sealed (λ r. (a r).may) (λ r. (b r).may) t })
    (sealed-same (λ r. (a r).must) (λ r. (b r).must) (λ r. (u r).must) (λ r. (v r).must) t
    (λ r le. ap must_of (f r le)) (λ r le. ap must_of (g r le)))
    ∙ ap (λ (x : Bool). record { must = sealed (λ r. (u r).must) (λ r. (v r).must) t; may = x })
    (sealed-same (λ r. (a r).may) (λ r. (b r).may) (λ r. (u r).may) (λ r. (v r).may) t
    (λ r le. ap may_of (f r le)) (λ r le. ap may_of (g r le)))

-- the timed element over the ticks recorded so far is that over the history
pub timed_of_ticks : (u : ℕ → Rails) (p d : Ends) (t : ℕ) →
    rails_timed (rails_at (first_ticks u t ++ u t ∷ [])) p d
    (length (first_ticks u t)) ≡ rails_timed u p d t
timed_of_ticks u p d t =
    ap (rails_timed (rails_at (first_ticks u (suc t))) p d) (length-first_ticks u t)
    ∙ rails_timed-same (rails_at (first_ticks u (suc t))) u p d t
    (λ r le. rails_at-first_ticks u (suc t) r (omega arith))

pub sealed_of_ticks : (u v : ℕ → Rails) (t : ℕ) →
    rails_sealed (rails_at (first_ticks u t ++ u t ∷ [])) (rails_at (first_ticks v t ++ v t ∷ []))
    (length (first_ticks u t)) ≡ rails_sealed u v t
sealed_of_ticks u v t =
    ap (rails_sealed (rails_at (first_ticks u (suc t))) (rails_at (first_ticks v (suc t))))
    (length-first_ticks u t)
    ∙ rails_sealed-same (rails_at (first_ticks u (suc t))) (rails_at (first_ticks v (suc t))) u v t
    (λ r le. rails_at-first_ticks u (suc t) r (omega arith))
    (λ r le. rails_at-first_ticks v (suc t) r (omega arith))

-- the timed element over the front of a recording is that over the whole
pub timed_of_taken : (l : List Rails) (p d : Ends) (t : ℕ) →
    rails_timed (rails_at (take (t + 1) l)) p d t ≡ rails_timed (rails_at l) p d t
timed_of_taken l p d t = rails_timed-same (rails_at (take (t + 1) l)) (rails_at l) p d t
    (λ r le. get_or-take (t + 1) l r (both false) (omega arith))

-- covering: over rails that cover a history, with ends around the pickup and the dropout, the timed
-- element is covered
pub timed_covers : (u : ℕ → Rails) (v : ℕ → Bool) (pickup dropout : Ends) (p d t : ℕ) →
    ((r : ℕ) → r ≤ t → Covers (u r) (v r)) → pickup.least ≤ p → p ≤ pickup.greatest →
    dropout.least ≤ d → d ≤ dropout.greatest →
    Covers (rails_timed u pickup dropout t) (timed v p d t)
timed_covers u v pickup dropout p d t h pl pg dl dg = record {
  must = timed-below (λ r. (u r).must) v pickup.greatest p dropout.least d t
      (λ r le. (h r le).must) pg dl;
  may = timed-below v (λ r. (u r).may) p pickup.least d dropout.greatest t
      (λ r le. (h r le).may) pl dg;
}

-- at single ends and equal rails, both rails are the timed element
pub timed_single : (v : ℕ → Bool) (p d t : ℕ) →
    rails_timed (λ r. record { must = v r; may = v r }) (record { least = p; greatest = p })
    (record { least = d; greatest = d }) t ≡ record { must = timed v p d t; may = timed v p d t }
timed_single v p d t = refl

-- a seal over rails that cover is covered
pub sealed_covers : (a b : ℕ → Rails) (u v : ℕ → Bool) (t : ℕ) →
    ((r : ℕ) → r ≤ t → Covers (a r) (u r)) → ((r : ℕ) → r ≤ t → Covers (b r) (v r)) →
    Covers (rails_sealed a b t) (sealed u v t)
sealed_covers a b u v t f g = record {
  must = sealed-below (λ r. (a r).must) (λ r. (b r).must) u v t (λ r le. (f r le).must)
      (λ r le. (g r le).must);
  may = sealed-below u v (λ r. (a r).may) (λ r. (b r).may) t (λ r le. (f r le).may)
      (λ r le. (g r le).may);
}

pub sealed_single : (u v : ℕ → Bool) (t : ℕ) →
    rails_sealed (λ r. both (u r)) (λ r. both (v r)) t ≡ both (sealed u v t)
sealed_single u v t = refl
