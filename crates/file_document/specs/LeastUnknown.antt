-- The unknown key of a table that is told: the least by its bytes.
use Rattle.std.specs.Prelude.{◌≡◌, ◌⊎◌, ℕ, List, false}
use Rattle.std.specs.Ordering.{nat_cmp}
use Rattle.std.specs.Str.{bytes_eq}
use Rattle.std.specs.List.{list_any}
use Rattle.std.specs.Cmp.Lexicographic.{slice_cmp}
use Rattle.std.specs.declared.cmp.Ordering.TheVariants.{Less}
use Rattle.toml.specs.Data.{Members, no_members, member}

-- the table has this key
abbrev pub HasKey : Members → List ℕ → Type 0
HasKey no_members key = ⊥
HasKey (member k d rest) key = (key ≡ k) ⊎ HasKey rest key

-- each key of the table that is none of the known ones is this one, or comes after it
abbrev pub IsLeastUnknown : List (List ℕ) → Members → List ℕ → Type 0
IsLeastUnknown known table key = (other : List ℕ) → HasKey table other
    → list_any (λ name. bytes_eq name other) known ≡ false
    → (other ≡ key) ⊎ (slice_cmp nat_cmp key other ≡ Less)
