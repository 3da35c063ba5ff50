-- Laws of texts: those that differ do so byte by byte.
use Rattle.std.proofs.Common.{◌≡◌, ◌≢◌, ℕ, false, List}
use Rattle.std.proofs.lemmas.Bool.{false_from_ne_true}
use Rattle.std.proofs.lemmas.Slice.Eq.{bytes_eq-Decides}
use Rattle.std.specs.Str.{bytes_eq}

pub bytes_differ : (a b : List ℕ) → a ≢ b → bytes_eq a b ≡ false
bytes_differ a b other =
    false_from_ne_true (bytes_eq a b) (λ same. other ((bytes_eq-Decides a b).0 same))
