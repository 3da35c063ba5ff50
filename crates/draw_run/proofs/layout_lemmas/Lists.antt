-- Lists that are joined piece by piece.
use Rattle.std.proofs.Common.{◌≡◌, ◌<◌, ◌+◌, ◌++◌, ℕ, List, ◌∙◌, ap, sym, append_assoc}
use Rattle.std.proofs.Common.{get_or, length, take}
use Rattle.std.proofs.lemmas.List.{flat_map_more, take_more}
use Rattle.std.specs.List.{flat_map}

-- what one element more adds
pub flat_more : {X A : Type 0} (f : X → List A) (pre old new : List A) (xs : List X) (i : ℕ) (d : X)
    → i < length xs → old ≡ pre ++ flat_map f (take i xs) → new ≡ old ++ f (get_or xs i d)
    → new ≡ pre ++ flat_map f (take (i + 1) xs)
flat_more f pre old new xs i d within start step =
    step
    ∙ ap (λ l. l ++ f (get_or xs i d)) start
    ∙ flat_map_more f pre (take i xs) (get_or xs i d)
    ∙ sym (ap (λ l. pre ++ flat_map f l) (take_more xs i d within))

-- three pieces, and seven
pub three_joined : (w a b c x y : List ℕ) → x ≡ w ++ a → y ≡ x ++ b
    → y ++ c ≡ w ++ (a ++ b ++ c)
three_joined w a b c x y first second =
    ap (λ (l : List ℕ). l ++ c) (second ∙ ap (λ (l : List ℕ). l ++ b) first) ∙ simp append_assoc

pub seven_joined : (w a b c d e f g p q r s t u : List ℕ) → p ≡ w ++ a → q ≡ p ++ b → r ≡ q ++ c
    → s ≡ r ++ d → t ≡ s ++ e → u ≡ t ++ f
    → u ++ g ≡ w ++ (a ++ b ++ c ++ d ++ e ++ f ++ g)
seven_joined w a b c d e f g p q r s t u e1 e2 e3 e4 e5 e6 =
    let three : q ++ c ≡ w ++ (a ++ b ++ c) = three_joined w a b c p q e1 e2 in
    let five : s ++ e ≡ r ++ (d ++ e) = ap (λ (l : List ℕ). l ++ e) e4 ∙ append_assoc r d e in
    let whole : u ++ g ≡ ((w ++ (a ++ b ++ c)) ++ (d ++ e)) ++ (f ++ g) =
    ap (λ (l : List ℕ). l ++ g) e6
    ∙ append_assoc t f g
    ∙ ap (λ (l : List ℕ). l ++ (f ++ g)) (e5 ∙ five ∙ ap (λ (l : List ℕ). l ++ (d ++ e)) (e3 ∙ three)) in
    whole ∙ simp append_assoc
