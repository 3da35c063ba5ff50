-- The items of an array, read one after another.
use Rattle.std.proofs.Common.{◌≡◌, ◌+◌, ◌<◌, ℕ, List, [], ◌∷◌, Result, Ok, drop, length, get_or}
use Rattle.std.proofs.Common.{refl, ap, subst, arith}
use Rattle.std.proofs.lemmas.List.{drop_more}
use Rattle.toml.specs.Data.{Data, table, Members, Items, no_items, item}
use Rattle.toml.specs.{View.view, View.items_of, View.items_view, declared.value.Value.Value}
use Rattle.toml.proofs.Views.{items_view-drop}
use Rattle.base_memory.specs.Gives.{◌>>=◌}
use Rattle.base_memory.specs.CheckLaws.{passed, same_ok}
use Rattle.file_document.specs.declared.fault.DocumentFault.{DocumentFault}
use Rattle.file_line.specs.{Places.Places, Lines.LineValues, Lines.items_at}
use Rattle.file_line.specs.Canonical.{tables_from}
use Rattle.file_line.proofs.Binds.{ok_of}

module _
    (read : Places → Data → LineValues → Result LineValues DocumentFault) (stands : ℕ → Places) where
  -- the next item, and then those after it
  pub items_more :
      (i : ℕ) (vs : List Value) (line : LineValues) (d : Value) → i < length vs
      → items_at read stands i (items_view (drop i vs)) line
      ≡ (read (stands i) (view (get_or vs i d)) line
      >>= λ more. items_at read stands (i + 1) (items_view (drop (i + 1) vs)) more)
  unfolding items_at
  items_more i vs line d h = rw (items_view-drop vs i d h)

  -- what each item keeps, all keep
  pub items_kept :
      (Kept : LineValues → Type 0)
      → ((places : Places) (d : Data) (line more : LineValues) → read places d line ≡ Ok more
      → Kept line → Kept more)
      → (i : ℕ) (ds : Items) (line more : LineValues) → items_at read stands i ds line ≡ Ok more
      → Kept line → Kept more
  unfolding items_at
  items_kept Kept each i no_items line more e kept = subst Kept (same_ok line more e) kept
  items_kept Kept each i (item d ds) line more e kept =
      let record { value = mid; was = mid_is; rest = rest } =
      passed (read (stands i) d line) _ more e in
      items_kept Kept each (i + 1) ds mid more rest (each _ d line mid mid_is kept)

-- Printed tables are read back, where each of them is: `done k` is what is read of the first k.
module _
    {X : Type 0} (read : Places → Data → LineValues → Result LineValues DocumentFault)
    (stands : ℕ → Places) (members : ℕ → X → Members) (xs : List X) (done : ℕ → LineValues)
    (each : (k : ℕ) (x : X) → k < length xs → x ≡ get_or xs k x
    → read (stands k) (table (members k x)) (done k) ≡ Ok (done (k + 1))) where
  rest_back :
      (rest : List X) (k : ℕ) → drop k xs ≡ rest → k + length rest ≡ length xs
      → items_at read stands k (items_of (tables_from members k rest)) (done k)
      ≡ Ok (done (length xs))
  unfolding items_at
  rest_back [] k is sum =
      let last : k ≡ length xs = omega arith in
      ap (λ i. ok_of (done i)) last
  rest_back (x ∷ rest) k is sum =
      let lt : k < length xs = omega arith in
      let more = drop_more xs k x lt in
      let here : x ≡ get_or xs k x = cc in
      let next : drop (k + 1) xs ≡ rest = cc in
      rw (each k x lt here) (rest_back rest (k + 1) next (omega arith))

  pub items_back :
      items_at read stands 0 (items_of (tables_from members 0 xs)) (done 0) ≡ Ok (done (length xs))
  items_back = rest_back xs 0 refl (omega arith)
