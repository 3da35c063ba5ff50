-- Steps stay in order where one is left out.
use Rattle.std.proofs.Common.{◌≡◌, ℕ, zero, suc, true, List, [], ◌∷◌, refl, arith}
use Rattle.std.proofs.lemmas.Bool.{and_from, and_parts}
use Rattle.std.proofs.lemmas.Bool.Decides.{nat_tests}
use Rattle.std.specs.List.{remove}
use Rattle.model_timing.specs.declared.step.Step.{Step}
use Rattle.model_timing.specs.Timing.{comes_before, ascend}

before_after : (x y z : Step ℕ) → comes_before x y ≡ true → comes_before y z ≡ true
    → comes_before x z ≡ true
before_after x y z one other = grind (arith, nat_tests)

pub ascend-remove : (steps : List (Step ℕ)) (j : ℕ) → ascend steps ≡ true
    → ascend (remove steps j) ≡ true
ascend-remove [] zero up = refl
ascend-remove [] (suc j) up = refl
ascend-remove (x ∷ []) zero up = refl
ascend-remove (x ∷ []) (suc zero) up = refl
ascend-remove (x ∷ []) (suc (suc j)) up = refl
ascend-remove (x ∷ y ∷ rest) zero up = (and_parts (comes_before x y) (ascend (y ∷ rest)) up).1
ascend-remove (x ∷ y ∷ []) (suc zero) up = refl
ascend-remove (x ∷ y ∷ z ∷ rest) (suc zero) up =
    let first = and_parts (comes_before x y) (ascend (y ∷ z ∷ rest)) up in
    let second = and_parts (comes_before y z) (ascend (z ∷ rest)) first.1 in
    and_from (comes_before x z) (ascend (z ∷ rest)) (before_after x y z first.0 second.0) second.1
ascend-remove (x ∷ y ∷ rest) (suc (suc j)) up =
    let first = and_parts (comes_before x y) (ascend (y ∷ rest)) up in
    and_from (comes_before x y) (ascend (y ∷ remove rest j)) first.0
    (ascend-remove (y ∷ rest) (suc j) first.1)
