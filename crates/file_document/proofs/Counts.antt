-- How many items an array has.
use Rattle.std.proofs.Common.{◌≡◌, ◌<◌, ◌≤◌, ℕ, List, [], ◌∷◌, length, Ok, Err, refl}
use Rattle.std.proofs.Common.{le-leb, arith}
use Rattle.std.proofs.lemmas.Bool.{lt-leb}
use Rattle.toml.specs.{View.items_view, declared.value.Value.Value}
use Rattle.file_document.specs.declared.fault.DocumentFault.TheVariants as fault
use Rattle.file_document.specs.Keys.{count_of, counted}

count_is : (vs : List Value) → count_of (items_view vs) ≡ length vs
count_is [] = refl
count_is (v ∷ vs) = let rest = count_is vs in omega arith

module _ (path : List ℕ) (least greatest : ℕ) (vs : List Value) where
  pub counted_ok : least ≤ length vs → length vs ≤ greatest
      → counted path least greatest (items_view vs) ≡ Ok (items_view vs)
  counted_ok some few =
      rw (count_is vs, le-leb least (length vs) some, le-leb (length vs) greatest few)

  pub counted_few : length vs < least
      → counted path least greatest (items_view vs) ≡ Err (fault.Range path)
  counted_few less = rw (count_is vs, lt-leb least (length vs) less)

  pub counted_many : least ≤ length vs → greatest < length vs
      → counted path least greatest (items_view vs) ≡ Err (fault.Range path)
  counted_many some more =
      rw (count_is vs, le-leb least (length vs) some, lt-leb (length vs) greatest more)
