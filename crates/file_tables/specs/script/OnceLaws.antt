-- Names of which no two are the same.
use Rattle.std.proofs.Common.{◌≡◌, ℕ, ◌<◌, true, false, List, [], ◌∷◌, ◌++◌, length}
use Rattle.std.proofs.Common.{get_or, refl, sym, ap, ◌∙◌, arith, length-append, inl, inr}
use Rattle.std.proofs.lemmas.Bool.{cases_lt}
use Rattle.std.proofs.lemmas.List.{get_or_append_left}
use Rattle.std.proofs.Math.Seq.{get_or-append_seam}
use Rattle.std.proofs.lemmas.List.Folds.{list_any_at}
use Rattle.std.proofs.lemmas.Slice.Eq.{bytes_eq-Decides}
use Rattle.std.specs.List.{list_any}
use Rattle.std.specs.Str.{bytes_eq}
use Rattle.file_tables.specs.script.SoFar.{AreOnce}

pub once_none : AreOnce []
once_none = λ j k less below same. absurd (omega arith)

-- one name more, that none of them has
pub once_more : (names : List (List ℕ)) (name : List ℕ) → AreOnce names
    → list_any (λ x. bytes_eq x name) names ≡ false → AreOnce (names ++ name ∷ [])
once_more names name once new = λ j k less below same.
    let count = length-append names (name ∷ []) in
    let early : j < length names = omega arith in
    let at_j = get_or_append_left names (name ∷ []) [] j early in
    elim (cases_lt k (length names)) [
      | inl inside ↦
          once j k less inside (sym at_j ∙ same ∙ get_or_append_left names (name ∷ []) [] k inside)
      | inr past ↦
          let last : k ≡ length names = omega arith in
          let at_k : get_or (names ++ name ∷ []) k [] ≡ name =
          ap (λ i. get_or (names ++ name ∷ []) i []) last
          ∙ get_or-append_seam names name [] [] in
          let here : bytes_eq (get_or names j []) name ≡ true =
          ap (λ x. bytes_eq x name) (sym at_j ∙ same ∙ at_k) ∙ (bytes_eq-Decides name name).1 refl in
          let some = list_any_at (λ x. bytes_eq x name) names j [] early here in
          absurd (let e : true ≡ false = sym some ∙ new in cc)
    ]
