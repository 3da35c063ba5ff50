-- Lists one after another: where something stands in them.
use Rattle.std.proofs.Common.{◌≡◌, ℕ, ◌+◌, ◌<◌, Bool, List, ◌++◌, length, get_or, drop}
use Rattle.std.proofs.Common.{Some, None, sym, ap, ◌∙◌, arith, length-append}
use Rattle.std.proofs.lemmas.List.{drop_more}
use Rattle.std.specs.Prelude.{option_map, is_some}
use Rattle.std.specs.List.{flat_map, position_from}
use Rattle.model_line.specs.FirstPositionLaws.{is_some-position, position_from-later, position_within}
use Rattle.model_line.specs.FirstPositionLaws.{position_from-append_some, position_from-append_none}

-- the next list, and then those after it
next_group :
    {X A : Type 0} (f : X → List A) (xs : List X) (i : ℕ) (d : X) → i < length xs →
    flat_map f (drop i xs) ≡ f (get_or xs i d) ++ flat_map f (drop (i + 1) xs)
next_group f xs i d inside = ap (flat_map f) (drop_more xs i d inside)

-- the first place in all lists is that in the lists from list i on, the first of which has number n
module _
    {X A : Type 0} (p : A → Bool) (f : X → List A) (xs : List X) (i n : ℕ) (d : X)
    (inside : i < length xs)
    (first : position_from p n (flat_map f (drop i xs)) ≡ position_from p 0 (flat_map f xs)) where
  abbrev own : List A
  own = f (get_or xs i d)

  abbrev rest : List A
  rest = flat_map f (drop (i + 1) xs)

  from_here : position_from p n (own ++ rest) ≡ position_from p 0 (flat_map f xs)
  from_here = ap (position_from p n) (sym (next_group f xs i d inside)) ∙ first

  -- in list i
  pub found_here :
      (j : ℕ) → Some j ≡ position_from p 0 own → Some (n + j) ≡ position_from p 0 (flat_map f xs)
  found_here j found =
      let same : n ≡ n + 0 = omega arith in
      sym (position_from-append_some p n (n + j) own rest
      (ap (λ k. position_from p k own) same ∙ position_from-later p n 0 own
      ∙ ap (option_map (λ k. n + k)) (sym found)))
      ∙ from_here

  pub within_here :
      (j : ℕ) → Some j ≡ position_from p 0 own → n + j < length (flat_map f xs)
  within_here j found =
      omega (arith, position_within p 0 (n + j) (flat_map f xs) (sym (found_here j found)))

  -- behind it
  pub found_behind :
      None ≡ position_from p 0 own →
      position_from p (n + length own) rest ≡ position_from p 0 (flat_map f xs)
  found_behind none =
      sym (position_from-append_none p n own rest
      (sym (is_some-position p 0 own) ∙ ap is_some (sym none)))
      ∙ from_here

-- as many from list i on as there are in it and behind it
pub count_next :
    {X A : Type 0} (f : X → List A) (xs : List X) (i n m : ℕ) (d : X) → i < length xs →
    n + length (flat_map f (drop i xs)) ≡ m →
    n + length (f (get_or xs i d)) + length (flat_map f (drop (i + 1) xs)) ≡ m
count_next f xs i n m d inside sum =
    omega (
      arith,
      ap length (next_group f xs i d inside),
      length-append (f (get_or xs i d)) (flat_map f (drop (i + 1) xs)),
    )
