-- What contracts see of a store in memory.
use Rattle.std.specs.Prelude.{ℕ, ◌-◌, min, List, [], length, Option, None, IsNone, Contains, ◌⊎◌}
use Rattle.std.specs.Prelude.{refl}
use Rattle.std.specs.Cmp.Lexicographic.{slice_cmp}
use Rattle.std.specs.Coded.{Coded, code_by, coded×, coded_list, coded_option, coded_ℕ}
use Rattle.std.specs.FinMap.{FinMap, empty, get, code}
use Rattle.std.specs.Ordering.{nat_cmp}
use Rattle.base_text.specs.{store.Bound.at_most, store.Counts.one_more, store.Counts.raised_by}

-- bytes under names
abbrev pub Files : Type 0
Files = FinMap (slice_cmp nat_cmp) (List ℕ)

-- a store in memory
pub record StoreState : Type 0 where
  -- the bytes under each name that it holds
  pub files : Files
  -- the numbers of the pulls that fail, the first pull being 1
  pub failing : List ℕ
  -- the most bytes that one pull gives, if there is a bound
  pub bound : Option ℕ
  -- how many bytes it gave, how many pulls were made, and how many failed
  pub given : ℕ
  pub pulls : ℕ
  pub faults : ℕ

-- a state is stored as its parts in a row
abbrev pub state_code : Coded StoreState
state_code = code_by
    (Files × (List ℕ × (Option ℕ × (ℕ × (ℕ × ℕ)))))
    (coded× (code (coded_list coded_ℕ) (coded_list coded_ℕ))
    (coded× (coded_list coded_ℕ)
    (coded× (coded_option coded_ℕ) (coded× coded_ℕ (coded× coded_ℕ coded_ℕ)))))
    (λ s. (s.files, (s.failing, (s.bound, (s.given, (s.pulls, s.faults))))))
    (λ p. record {
      files = p.0;
      failing = p.1.0;
      bound = p.1.1.0;
      given = p.1.1.1.0;
      pulls = p.1.1.1.1.0;
      faults = p.1.1.1.1.1;
    })
    (λ _. refl)

-- a store that holds nothing, of which nothing was asked yet
abbrev pub empty_store : StoreState
empty_store = record {
  files = empty;
  failing = [];
  bound = None;
  given = 0;
  pulls = 0;
  faults = 0;
}

-- the next pull of this name fails
abbrev pub PullFails : StoreState → List ℕ → Type 0
PullFails s name = Contains s.failing (one_more s.pulls) ⊎ IsNone (get s.files name)

-- how many of the bytes from that place on a pull gives into so much room
abbrev pub pull_count : StoreState → List ℕ → ℕ → ℕ → ℕ
pull_count s bytes from room = at_most s.bound (min (length bytes - from) room)

-- the store after a pull that failed
abbrev pub after_failed_pull : StoreState → StoreState
after_failed_pull s = record s { pulls = one_more s.pulls; faults = one_more s.faults }

-- the store after a pull that gave so many bytes
abbrev pub after_pull : StoreState → ℕ → StoreState
after_pull s count = record s { pulls = one_more s.pulls; given = raised_by count s.given }
