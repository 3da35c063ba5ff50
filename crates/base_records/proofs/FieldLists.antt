-- Lists of three fields and of five.
use Rattle.std.proofs.Common.{◌≡◌, ℕ, List, [], ◌∷◌, length, Some, arith}
use Rattle.std.proofs.lemmas.Option.{same_Some}
use Rattle.csv.specs.Records.{field_at}

pub three_fields_are : (fs : List (List ℕ)) (a b c : List ℕ) → length fs ≡ 3
    → field_at fs 0 ≡ Some a → field_at fs 1 ≡ Some b → field_at fs 2 ≡ Some c
    → fs ≡ a ∷ b ∷ c ∷ []
unfolding field_at
three_fields_are [] a b c n p q r = absurd (omega arith)
three_fields_are (u ∷ []) a b c n p q r = absurd (omega arith)
three_fields_are (u ∷ v ∷ []) a b c n p q r = absurd (omega arith)
three_fields_are (u ∷ v ∷ w ∷ []) a b c n p q r =
    let ua = same_Some u a p in
    let vb = same_Some v b q in
    let wc = same_Some w c r in
    cc
three_fields_are (u ∷ v ∷ w ∷ x ∷ fs) a b c n p q r = absurd (omega arith)

pub five_fields_are : (fs : List (List ℕ)) (a b c d e : List ℕ) → length fs ≡ 5
    → field_at fs 0 ≡ Some a → field_at fs 1 ≡ Some b → field_at fs 2 ≡ Some c
    → field_at fs 3 ≡ Some d → field_at fs 4 ≡ Some e → fs ≡ a ∷ b ∷ c ∷ d ∷ e ∷ []
unfolding field_at
five_fields_are [] a b c d e n p q r s t = absurd (omega arith)
five_fields_are (u ∷ []) a b c d e n p q r s t = absurd (omega arith)
five_fields_are (u ∷ v ∷ []) a b c d e n p q r s t = absurd (omega arith)
five_fields_are (u ∷ v ∷ w ∷ []) a b c d e n p q r s t = absurd (omega arith)
five_fields_are (u ∷ v ∷ w ∷ x ∷ []) a b c d e n p q r s t = absurd (omega arith)
five_fields_are (u ∷ v ∷ w ∷ x ∷ y ∷ []) a b c d e n p q r s t =
    let ua = same_Some u a p in
    let vb = same_Some v b q in
    let wc = same_Some w c r in
    let xd = same_Some x d s in
    let ye = same_Some y e t in
    cc
five_fields_are (u ∷ v ∷ w ∷ x ∷ y ∷ z ∷ fs) a b c d e n p q r s t = absurd (omega arith)
