-- The nearest of the names so far.
use Rattle.std.proofs.Common.{◌≡◌, ◌+◌, ◌≤◌, ◌<◌, ℕ, Bool, true, false, List, [], ◌∷◌, ◌++◌}
use Rattle.std.proofs.Common.{Option, None, Some, refl, sym, ap, ◌∙◌, fold, map, take, length, get_or, nat_le, arith}
use Rattle.std.proofs.lemmas.Bool.{leb-false}
use Rattle.std.proofs.lemmas.List.{map_more}
use Rattle.std.proofs.lemmas.List.Elements.{All-nil, All-push, All-weaker, Contains-append_left}
use Rattle.std.proofs.lemmas.List.Elements.{Contains-append_right}
use Rattle.std.specs.List.{All, Contains}
use Rattle.call_work.specs.load.Nearest.{IsNearest, edits, near_name, nearer}
use Rattle.call_work.specs.declared.load.nearest.Near.{Near}

-- of these names none is nearer
pub record IsLeast (asked : List ℕ) (names : List (List ℕ)) (near : Near) : Type 0 where
  pub counted : near.edits ≡ edits near.name asked
  pub among : Contains names near.name
  pub least : All (λ name. near.edits ≤ edits name asked) names

-- the nearest of the names so far; or there are none
abbrev pub IsSoFar : List ℕ → List (List ℕ) → Option Near → Type 0
IsSoFar asked names None = names ≡ []
IsSoFar asked names (Some near) = IsLeast asked names near

-- the nearest of all
pub nearest_found : (asked : List ℕ) (names : List (List ℕ)) (near : Option Near)
    → IsSoFar asked names near → IsNearest names asked (near_name near)
nearest_found asked names None is = is
nearest_found asked names (Some near) is = (
  is.among,
  All-weaker (λ (name : List ℕ). near.edits ≤ edits name asked)
      (λ (name : List ℕ). edits near.name asked ≤ edits name asked)
      (λ name le. rw is.counted at le) names is.least,
)

alone : (x : List ℕ) → Contains (x ∷ []) x
alone x = (0, omega arith, refl)

module _ (asked : List ℕ) (names : List (List ℕ)) (x : List ℕ) where
  -- the name itself is the nearest of these and itself
  taken : All (λ name. edits x asked ≤ edits name asked) names
      → IsLeast asked (names ++ x ∷ []) (record { name = x; edits = edits x asked })
  taken least = record {
    counted = refl;
    among = Contains-append_right names (x ∷ []) x (alone x);
    least = All-push (λ (name : List ℕ). edits x asked ≤ edits name asked) names x least
        (omega arith);
  }

  kept_or_taken : (near : Near) (b : Bool) → nat_le near.edits (edits x asked) ≡ b
      → IsLeast asked names near
      → IsLeast asked (names ++ x ∷ []) (nearer asked (Some near) x)
  kept_or_taken near true is least = rw is (record {
    counted = least.counted;
    among = Contains-append_left names (x ∷ []) near.name least.among;
    least = All-push (λ (name : List ℕ). near.edits ≤ edits name asked) names x least.least
        (grind arith);
  })
  kept_or_taken near false is least = rw is (taken (All-weaker
      (λ (name : List ℕ). near.edits ≤ edits name asked)
      (λ (name : List ℕ). edits x asked ≤ edits name asked)
      (λ name le. let far = leb-false near.edits (edits x asked) is in omega (arith, far, le))
      names least.least))

  -- with one name more
  pub near_more : (near : Option Near) → IsSoFar asked names near
      → IsSoFar asked (names ++ x ∷ []) (Some (nearer asked near x))
  near_more None none = rw none (taken_first none)
    where
      taken_first : names ≡ []
          → IsLeast asked ([] ++ x ∷ []) (record { name = x; edits = edits x asked })
      taken_first is = rw is at (taken (rw is (All-nil (λ (name : List ℕ).
          edits x asked ≤ edits name asked))))
  near_more (Some near) least =
      kept_or_taken near (nat_le near.edits (edits x asked)) refl least

-- and so with one element of a list more
pub near_on : {A : Type 0} (name_of : A → List ℕ) (asked : List ℕ) (xs : List A) (i : ℕ) (d : A)
    (near : Option Near) → i < length xs → IsSoFar asked (map name_of (take i xs)) near
    → IsSoFar asked (map name_of (take (i + 1) xs))
    (Some (nearer asked near (name_of (get_or xs i d))))
near_on name_of asked xs i d near inside so_far =
    rw (map_more name_of xs i d inside)
    (near_more asked (map name_of (take i xs)) (name_of (get_or xs i d)) near so_far)

fold_more : {A B : Type 0} (f : B → A → B) (b : B) (xs : List A) (x : A)
    → fold f b (xs ++ x ∷ []) ≡ f (fold f b xs) x
fold_more f b [] x = refl
fold_more f b (y ∷ ys) x = fold_more f (f b y) ys x

-- the nearest so far, with one element of a list more
pub fold_on : {A : Type 0} (name_of : A → List ℕ) (asked : List ℕ) (xs : List A) (i : ℕ) (d : A)
    (near : Option Near) → i < length xs
    → near ≡ fold (λ near name. Some (nearer asked near name)) None (map name_of (take i xs))
    → Some (nearer asked near (name_of (get_or xs i d)))
    ≡ fold (λ near name. Some (nearer asked near name)) None (map name_of (take (i + 1) xs))
fold_on name_of asked xs i d near inside so_far =
    let step : Option Near → List ℕ → Option Near = λ near name. Some (nearer asked near name) in
    let x = name_of (get_or xs i d) in
    ap (λ so. step so x) so_far ∙ sym (fold_more step None (map name_of (take i xs)) x)
    ∙ ap (fold step None) (sym (map_more name_of xs i d inside))
