-- Rows that are made one after another.
use Rattle.std.proofs.Common.{◌≡◌, ◌<◌, ◌+◌, ◌++◌, ℕ, List, [], ◌∷◌, length, take, get_or, sym, ◌∙◌}
use Rattle.std.proofs.Common.{ap, arith}
use Rattle.std.proofs.lemmas.Grind.{flat_map-append}
use Rattle.std.proofs.lemmas.List.{append_assoc, append-nil, length-take-le, take_more}
use Rattle.std.specs.List.{flat_map}
use Rattle.draw_page.specs.Elements.{numbered}

-- the first ones and one more
first_and : {A : Type 0} (all : List A) (i : ℕ) (one : A) → i < length all → one ≡ get_or all i one
    → take (i + 1) all ≡ take i all ++ one ∷ []
first_and {A} all i one lt is =
    take_more all i one lt ∙ ap (λ (x : A). take i all ++ x ∷ []) (sym is)

pub row_more : {A : Type 0} (html : A → List ℕ) (all : List A) (i : ℕ) (one : A) → i < length all
    → one ≡ get_or all i one
    → flat_map html (take i all) ++ html one ≡ flat_map html (take (i + 1) all)
row_more html all i one lt is =
    sym (ap (flat_map html) (first_and all i one lt is)
    ∙ flat_map-append html (take i all) (one ∷ [])
    ∙ ap (λ (l : List ℕ). flat_map html (take i all) ++ l) (append-nil (html one)))

numbered_more : {A : Type 0} (html : ℕ → A → List ℕ) (n : ℕ) (all : List A) (one : A)
    → numbered html n (all ++ one ∷ []) ≡ numbered html n all ++ html (n + length all) one
numbered_more html n [] one =
    let same : n ≡ n + 0 = omega arith in
    append-nil (html n one) ∙ ap (λ (k : ℕ). html k one) same
numbered_more html n (a ∷ rest) one =
    let same : n + 1 + length rest ≡ n + length (a ∷ rest) = omega arith in
    let rows : List ℕ = numbered html (n + 1) rest in
    ap (λ (l : List ℕ). html n a ++ l) (numbered_more html (n + 1) rest one)
    ∙ ap (λ (k : ℕ). html n a ++ (rows ++ html k one)) same
    ∙ sym (append_assoc (html n a) rows (html (n + length (a ∷ rest)) one))

-- the same, each with its number
pub place_more : {A : Type 0} (html : ℕ → A → List ℕ) (all : List A) (i : ℕ) (one : A)
    → i < length all → one ≡ get_or all i one
    → numbered html 0 (take i all) ++ html i one ≡ numbered html 0 (take (i + 1) all)
place_more html all i one lt is =
    let long : length (take i all) ≡ i = length-take-le i all (omega arith) in
    let same : 0 + length (take i all) ≡ i = omega (arith, long) in
    sym (ap (numbered html 0) (first_and all i one lt is)
    ∙ numbered_more html 0 (take i all) one
    ∙ ap (λ (k : ℕ). numbered html 0 (take i all) ++ html k one) same)
