-- The digest of a text.
use Rattle.std.specs.Prelude.{◌≡◌, ℕ, List}
use Rattle.hex.specs.Hex.{encode_lower}
use Rattle.sha2.specs.Sha256.{sha256}

-- the hash of the text that stands in it
abbrev pub IsHashOf : List ℕ → List ℕ → Type 0
IsHashOf text hash = hash ≡ encode_lower (sha256 text)
