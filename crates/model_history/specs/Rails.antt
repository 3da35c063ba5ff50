-- Pairs of truth values, what must be and what may be, and the interval rule of each operation.
use Rattle.std.specs.Prelude.{ℕ, suc, ◌≡◌, ◌≤◌, Bool, false, not, ◌&&◌, ◌||◌, nat_le, nat_lt}
use Rattle.std.specs.Prelude.{IsTrue, List, slice_index_or}
use Rattle.model_history.specs.Elements.{timed, sealed, delayed, every_below, some_below}

-- the must rail and the may rail
pub record Rails : Type 0 where
  pub must : Bool
  pub may : Bool

-- a value that is known
abbrev pub both : Bool → Rails
both v = record { must = v; may = v }

-- what must be may be
abbrev pub IsSound : Rails → Type 0
IsSound x = IsTrue x.must → IsTrue x.may

abbrev pub must_of : Rails → Bool
must_of x = x.must

abbrev pub may_of : Rails → Bool
may_of x = x.may

-- the two ends of a span of numbers
pub record Ends : Type 0 where
  pub least : ℕ
  pub greatest : ℕ

-- the span of one number
abbrev pub single : ℕ → Ends
single value = record { least = value; greatest = value }

-- ---- the interval rules

-- each rail of a denial is the denial of the other rail
abbrev pub rails_not : Rails → Rails
rails_not x = record { must = not x.may; may = not x.must }

abbrev pub rails_and : Rails → Rails → Rails
rails_and x y = record { must = x.must && y.must; may = x.may && y.may }

abbrev pub rails_or : Rails → Rails → Rails
rails_or x y = record { must = x.must || y.must; may = x.may || y.may }

-- the timed element: the must rail has the greatest pickup and the least dropout,
-- the may rail the least pickup and the greatest dropout
abbrev pub rails_timed : (ℕ → Rails) → Ends → Ends → ℕ → Rails
rails_timed u p d t = record {
  must = timed (λ r. (u r).must) p.greatest d.least t;
  may = timed (λ r. (u r).may) p.least d.greatest t;
}

-- the seal of the two must rails, and of the two may rails
abbrev pub rails_sealed : (ℕ → Rails) → (ℕ → Rails) → ℕ → Rails
rails_sealed set keep t = record {
  must = sealed (λ r. (set r).must) (λ r. (keep r).must) t;
  may = sealed (λ r. (set r).may) (λ r. (keep r).may) t;
}

-- what is received at t, where what arrives at t was delayed by a number within the ends c:
-- it must be on where it is for every such delay, and may be on where it is for some.
-- The ends are those of tick t: where they move, `rails_delayed u (c t) t` is the value at t.
unfoldable pub rails_delayed : (ℕ → Rails) → Ends → ℕ → Rails
rails_delayed u c t = record {
  must = every_below (λ k. nat_lt k c.least || delayed (λ r. (u r).must) k t) (suc c.greatest);
  may = some_below (λ k. nat_le c.least k && delayed (λ r. (u r).may) k t) (suc c.greatest);
}

-- ---- histories of rails

-- the two are the same up to tick t
abbrev pub SameRails : (ℕ → Rails) → (ℕ → Rails) → ℕ → Type 0
SameRails u v t = (r : ℕ) → r ≤ t → u r ≡ v r

-- the rails at tick t of a recorded history; off outside
abbrev pub rails_at : List Rails → ℕ → Rails
rails_at recorded t = slice_index_or recorded t (both false)

-- ---- covering

-- the rails allow this truth value
pub record Covers (x : Rails) (v : Bool) : Type 0 where
  pub must : IsTrue x.must → IsTrue v
  pub may : IsTrue v → IsTrue x.may

-- the wide rails allow all that the narrow ones do
pub record RailsCover (wide narrow : Rails) : Type 0 where
  pub must : IsTrue wide.must → IsTrue narrow.must
  pub may : IsTrue narrow.may → IsTrue wide.may

-- each number of the inner span is one of the outer span
pub record IsPartOf (inner outer : Ends) : Type 0 where
  pub least : outer.least ≤ inner.least
  pub greatest : inner.greatest ≤ outer.greatest
