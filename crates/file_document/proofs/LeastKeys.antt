-- Where the keys of a table ascend, the first unknown one is the least.
use Rattle.std.proofs.Common.{◌≡◌, ℕ, Bool, true, false, cond, List, [], ◌∷◌, Some, refl, sym, ◌∙◌}
use Rattle.std.proofs.Common.{ap, subst, inl, inr}
use Rattle.std.specs.Prelude.{string_bytes, String}
use Rattle.std.specs.Ordering.{nat_cmp}
use Rattle.std.specs.Str.{bytes_eq}
use Rattle.std.specs.List.{list_any, AllByRecursion}
use Rattle.std.specs.List.Sorted.{IsStrictlySortedBy}
use Rattle.std.specs.Map.{keys_of}
use Rattle.std.specs.String.{string_cmp}
use Rattle.std.specs.Cmp.Lexicographic.{slice_cmp}
use Rattle.std.specs.declared.alloc.Global.{Global}
use Rattle.std.specs.declared.cmp.Ordering.TheVariants.{Less}
use Rattle.toml.specs.{declared.value.Value.Value, View.members_view}
use Rattle.file_document.specs.{Keys.first_unknown, LeastUnknown.HasKey, LeastUnknown.IsLeastUnknown}

abbrev Entry : Type 0
Entry = String Global × Value

after : (k : String Global) (es : List Entry)
    → AllByRecursion (λ y. string_cmp k y ≡ Less) (keys_of es) → (other : List ℕ)
    → HasKey (members_view es) other → slice_cmp nat_cmp (string_bytes k) other ≡ Less
after k [] order other has = absurd has
after k (e ∷ es) order other has = elim has [
  | inl same ↦ ap (λ (o : List ℕ). slice_cmp nat_cmp (string_bytes k) o) same ∙ order.0
  | inr more ↦ after k es order.1 other more
]

abbrev among : List (List ℕ) → List ℕ → Bool
among known key = list_any (λ name. bytes_eq name key) known

pub least_unknown : (known : List (List ℕ)) (es : List Entry) (key : List ℕ)
    → IsStrictlySortedBy string_cmp (keys_of es)
    → first_unknown known (members_view es) ≡ Some key
    → IsLeastUnknown known (members_view es) key
unfolding IsStrictlySortedBy
least_unknown known [] key order found = absurd (cc)
least_unknown known (e ∷ es) key order found =
    by (least_unknown known es key order.1) (among known (string_bytes e.0)) refl found where
      by : (first_unknown known (members_view es) ≡ Some key
          → IsLeastUnknown known (members_view es) key)
          → (b : Bool) → among known (string_bytes e.0) ≡ b
          → cond b (first_unknown known (members_view es)) (Some (string_bytes e.0)) ≡ Some key
          → IsLeastUnknown known (members_view (e ∷ es)) key
      by later true is next other has unknown = elim has [
        | inl same ↦
            let not_known : among known (string_bytes e.0) ≡ false =
            ap (among known) (sym same) ∙ unknown in
            absurd (let both : true ≡ false = sym is ∙ not_known in cc)
        | inr more ↦ later next other more unknown
      ]
      by later false is here other has unknown =
          let own : string_bytes e.0 ≡ key = cc in
          elim has [
            | inl same ↦ inl (same ∙ own)
            | inr more ↦
                inr (subst (λ (k : List ℕ). slice_cmp nat_cmp k other ≡ Less) own
                (after e.0 es order.0 other more))
          ]
