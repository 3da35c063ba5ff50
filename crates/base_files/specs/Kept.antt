-- What contracts see of a reader that keeps what it gave.
use Rattle.std.specs.Prelude.{ℕ, ◌≤◌, ◌⊎◌, List, Option, length}
use Rattle.std.specs.Io.KnownBytes.{IsAtEnd, prepend_known}

-- what it gave, and what it has left, where the reader tells
pub record KeptView : Type 0 where
  pub kept : List ℕ
  pub left : Option (List ℕ)

-- all that it gave and has left
abbrev pub whole_of : KeptView → Option (List ℕ)
whole_of view = prepend_known view.kept view.left

-- so many bytes are there, or none is left
abbrev pub HasReached : ℕ → KeptView → Type 0
HasReached count view = (count ≤ length view.kept) ⊎ IsAtEnd view.left
