-- Lines read one after another, at places that come from lists.
use Rattle.std.proofs.Common.{◌≡◌, ◌≢◌, ℕ, ◌+◌, ◌<◌, ◌≤◌, Bool, true, false, List, [], ◌∷◌, ◌++◌}
use Rattle.std.proofs.Common.{length, map, drop, get_or, ◌∙◌, ap, subst}
use Rattle.std.proofs.Common.{append_assoc}
use Rattle.std.proofs.lemmas.List.{drop_more, drop_all, map-append, append-nil}
use Rattle.std.proofs.lemmas.List.Concat.{flat_map-append}
use Rattle.std.specs.Prelude.{◌==◌}
use Rattle.std.specs.List.{flat_map}
use Rattle.base_text.specs.lines.Lines.{Goes}

-- ---- places, one for each of a list

-- the places of the next of several
pub next_places : {X K : Type 0} (of : X → List K) (xs : List X) (k : ℕ) (d : X)
    (later : List K) → k < length xs
    → flat_map of (drop k xs) ++ later
    ≡ of (get_or xs k d) ++ (flat_map of (drop (k + 1) xs) ++ later)
next_places of xs k d later inside =
    ap (λ ys. flat_map of ys ++ later) (drop_more xs k d inside)
    ∙ append_assoc (of (get_or xs k d)) (flat_map of (drop (k + 1) xs)) later

-- none is left
pub all_parts : {X K : Type 0} (of : X → List K) (xs : List X) (k : ℕ) (later : List K)
    → length xs ≤ k → flat_map of (drop k xs) ++ later ≡ later
all_parts of xs k later all = ap (λ ys. flat_map of ys ++ later) (drop_all k xs all)

-- what the lines of one more say
pub parts_more : {X Y M : Type 0} (says : Y → List M) (of : X → Y) (xs ys : List X) (x : X)
    → ys ≡ xs ++ x ∷ []
    → flat_map says (map of ys) ≡ flat_map says (map of xs) ++ says (of x)
parts_more {X} {Y} {M} says of xs ys x is =
    ap (λ l. flat_map says (map of l)) is
    ∙ ap (flat_map says) (map-append of xs (x ∷ []))
    ∙ flat_map-append says (map of xs) (of x ∷ [])
    ∙ ap (λ (l : List M). flat_map says (map of xs) ++ l) (append-nil (says (of x)))

-- ---- lines that were read

module _ {K M : Type 0} (stands : K → M → List ℕ → Type 0) (opens : K → M → List K) where
  -- places that are left, told otherwise
  pub left_as : (places : List K) (said : List M) (text : List ℕ) (a : ℕ) (mid left : List K)
      (at : List ℕ) (b : ℕ) → mid ≡ left → Goes stands opens places said text a mid at b
      → Goes stands opens places said text a left at b
  left_as places said text a mid left at b same g =
      let P : List K → Type 0 = λ l. Goes stands opens places said text a l at b in
      subst P same g

  -- what is said, told otherwise
  pub said_as : (places : List K) (said told : List M) (text : List ℕ) (a : ℕ) (left : List K)
      (at : List ℕ) (b : ℕ) → said ≡ told → Goes stands opens places said text a left at b
      → Goes stands opens places told text a left at b
  said_as places said told text a left at b same g =
      let P : List M → Type 0 = λ s. Goes stands opens places s text a left at b in
      subst P same g

-- ---- the end of a text

pub some_left : (r : Bool) (xs : List ℕ) → r ≡ (length xs == 0) → r ≡ false → xs ≢ []
some_left r xs tells is none =
    let yes : (length xs == 0) ≡ true = ap (λ (l : List ℕ). length l == 0) none in
    cc
