-- Rails of truth values: what covers them, and the rails of a recorded history.
use Rattle.std.proofs.Common.{◌≡◌, ℕ, Bool, List, map, sym, ◌∙◌}
use Rattle.std.proofs.Math.ListN.{get_or-map}
use Rattle.std.specs.Prelude.{false}
use Rattle.model_history.specs.Rails.{Rails, Covers, RailsCover, both, must_of, may_of, rails_at}
use Rattle.model_history.specs.Recorded.{at}

-- the same value covers itself
pub covers_same : (x y : Bool) → x ≡ y → RailsCover (both x) (both y)
covers_same x y e = record { must = λ h. sym e ∙ h; may = λ h. e ∙ h }

-- a known value is covered as rails are
pub covers_both : (x : Rails) (v : Bool) → Covers x v → RailsCover x (both v)
covers_both x v h = record { must = h.must; may = h.may }

pub both_covered : (x : Rails) (v : Bool) → RailsCover x (both v) → Covers x v
both_covered x v h = record { must = h.must; may = h.may }

-- one rail of a recorded history
pub must_at : (l : List Rails) (r : ℕ) → at (map must_of l) r ≡ (rails_at l r).must
must_at l r = get_or-map must_of l r (both false)

pub may_at : (l : List Rails) (r : ℕ) → at (map may_of l) r ≡ (rails_at l r).may
may_at l r = get_or-map may_of l r (both false)
