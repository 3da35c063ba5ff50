-- Lines printed one after another.
use Rattle.std.proofs.Common.{◌≡◌, ℕ, ◌+◌, ◌<◌, List, [], ◌∷◌, ◌++◌, length, map, take, get_or}
use Rattle.std.proofs.Common.{refl, sym, ◌∙◌, ap, arith, append_assoc, ◌≤◌}
use Rattle.std.proofs.lemmas.List.{append-nil, take_more, map-append, length-map, length-take-le}
use Rattle.std.proofs.lemmas.List.{take_all}
use Rattle.cert_claims.specs.text.Grammar.{Place, Said}
use Rattle.cert_claims.specs.text.Text.{line_text, fed, lines_text}

-- lines, and then more lines
pub lines_append : (places : List Place) (said : List Said) (more : List Place)
    (then : List Said) → length places ≡ length said
    → lines_text (places ++ more) (said ++ then) ≡ lines_text places said ++ lines_text more then
lines_append [] [] more then long = refl
lines_append [] (m ∷ said) more then long = absurd (omega arith)
lines_append (p ∷ places) [] more then long = absurd (omega arith)
lines_append (p ∷ places) (m ∷ said) more then long =
    ap (λ (l : List ℕ). fed (line_text p m) ++ l)
    (lines_append places said more then (omega arith))
    ∙ sym (append_assoc (fed (line_text p m)) (lines_text places said) (lines_text more then))

-- one line more
pub one_more_line : {X Y : Type 0} (place : X → Place) (says : Y → Said) (xs : List X)
    (ys : List Y) (k : ℕ) (d : X) (e : Y) → k < length xs → k < length ys
    → lines_text (map place (take (k + 1) xs)) (map says (take (k + 1) ys))
    ≡ lines_text (map place (take k xs)) (map says (take k ys))
    ++ fed (line_text (place (get_or xs k d)) (says (get_or ys k e)))
one_more_line place says xs ys k d e inside within =
    let line : List ℕ = fed (line_text (place (get_or xs k d)) (says (get_or ys k e))) in
    let places : map place (take (k + 1) xs)
    ≡ map place (take k xs) ++ place (get_or xs k d) ∷ [] =
    ap (map place) (take_more xs k d inside) ∙ map-append place (take k xs) (get_or xs k d ∷ []) in
    let said : map says (take (k + 1) ys) ≡ map says (take k ys) ++ says (get_or ys k e) ∷ [] =
    ap (map says) (take_more ys k e within) ∙ map-append says (take k ys) (get_or ys k e ∷ []) in
    let long : length (map place (take k xs)) ≡ length (map says (take k ys)) =
    length-map (take k xs) place ∙ length-take-le k xs (omega arith)
    ∙ sym (length-map (take k ys) says ∙ length-take-le k ys (omega arith)) in
    ap (λ (l : List Place). lines_text l (map says (take (k + 1) ys))) places
    ∙ ap (λ (l : List Said). lines_text (map place (take k xs) ++ place (get_or xs k d) ∷ []) l)
    said
    ∙ lines_append (map place (take k xs)) (map says (take k ys)) (place (get_or xs k d) ∷ [])
    (says (get_or ys k e) ∷ []) long
    ∙ ap (λ (l : List ℕ). lines_text (map place (take k xs)) (map says (take k ys)) ++ l)
    (append-nil line)

-- all lines are printed
pub all_lines : {X Y : Type 0} (place : X → Place) (says : Y → Said) (xs : List X) (ys : List Y)
    (k : ℕ) → length xs ≤ k → length ys ≤ k
    → lines_text (map place (take k xs)) (map says (take k ys))
    ≡ lines_text (map place xs) (map says ys)
all_lines place says xs ys k a b =
    ap (λ l. lines_text (map place l) (map says (take k ys))) (take_all k xs a)
    ∙ ap (λ l. lines_text (map place xs) (map says l)) (take_all k ys b)

-- a script's part, one stretch of lines after another
pub three_stretches : (text after keys_done done script keys verdicts : List ℕ)
    → after ≡ text ++ script → keys_done ≡ after ++ keys → done ≡ keys_done ++ verdicts
    → done ≡ text ++ (script ++ (keys ++ verdicts))
three_stretches text after keys_done done script keys verdicts a b c =
    c ∙ ap (λ (l : List ℕ). l ++ verdicts) (b ∙ ap (λ (l : List ℕ). l ++ keys) a)
    ∙ append_assoc (text ++ script) keys verdicts ∙ append_assoc text script (keys ++ verdicts)
