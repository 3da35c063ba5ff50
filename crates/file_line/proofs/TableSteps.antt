-- The tables of a line's terminals or channels, made one after another.
use Rattle.std.proofs.Common.{◌≡◌, ◌<◌, ◌≤◌, ◌+◌, ◌++◌, ℕ, List, [], ◌∷◌, length, map, drop, get_or}
use Rattle.std.proofs.Common.{sym, ◌∙◌, ap, append_assoc}
use Rattle.std.proofs.lemmas.List.{map-append, append-nil, drop_more, drop_all}
use Rattle.toml.specs.{Data.Data, Data.table, Data.Members, View.view}
use Rattle.toml.specs.declared.value.Value.{Value}
use Rattle.file_line.specs.Canonical.{tables_from}

module _ {X : Type 0} (members : ℕ → X → Members) (xs : List X) where
  -- one table more, and then those after it
  pub tables_more :
      (k : ℕ) (x : X) (vs new : List Value) (v : Value)
      → k < length xs → x ≡ get_or xs k x → new ≡ vs ++ v ∷ [] → view v ≡ table (members k x)
      → map view new ++ tables_from members (k + 1) (drop (k + 1) xs)
      ≡ map view vs ++ tables_from members k (drop k xs)
  tables_more k x vs new v lt at pushed is =
      let rest : List Data = tables_from members (k + 1) (drop (k + 1) xs) in
      let front : List Data = map view vs in
      ap (λ (l : List Value). map view l ++ rest) pushed
      ∙ ap (λ (l : List Data). l ++ rest) (map-append view vs (v ∷ []))
      ∙ append_assoc front (view v ∷ []) rest
      ∙ ap (λ (d : Data). front ++ d ∷ rest) is
      ∙ ap (λ (y : X). front ++ table (members k y) ∷ rest) at
      ∙ ap (λ (l : List X). front ++ tables_from members k l) (sym (drop_more xs k x lt))

  -- none are left
  pub tables_done :
      (k : ℕ) (vs : List Value) (all : List Data) → length xs ≤ k
      → map view vs ++ tables_from members k (drop k xs) ≡ all → map view vs ≡ all
  tables_done k vs all end made =
      sym (append-nil (map view vs))
      ∙ ap (λ (l : List X). map view vs ++ tables_from members k l) (sym (drop_all k xs end))
      ∙ made
