-- The first record of a script, one after another.
use Rattle.std.proofs.Common.{◌≡◌, ◌<◌, ◌≤◌, ◌+◌, ◌∷◌, [], ℕ, zero, suc, true, false, List, length, map}
use Rattle.std.proofs.Common.{refl, sym, ◌∙◌, ap, arith, get_or, drop}
use Rattle.std.specs.Prelude.{◌==◌, Ok, Err}
use Rattle.judge_match.specs.declared.matching.seen.Seen.{Seen}
use Rattle.judge_match.specs.matching.Waves.{SeenValues, seen_values}
use Rattle.call_work.specs.explain.Picked.{record_of}
use Rattle.call_work.specs.declared.explain.unpicked.Unpicked.TheVariants.{Missing}

at_drop : (xs : List Seen) (i : ℕ) (x : Seen) → i < length xs → x ≡ get_or xs i x
    → drop i xs ≡ x ∷ drop (i + 1) xs
at_drop [] i x inside is = absurd (omega (arith, inside))
at_drop (y ∷ ys) zero x inside is = ap (λ (z : Seen). z ∷ ys) (sym is)
at_drop (y ∷ ys) (suc i) x inside is =
    let e : suc (i + 1) ≡ suc i + 1 = omega arith in
    at_drop ys i x (omega (arith, inside)) is ∙ ap (λ (n : ℕ). x ∷ drop n (y ∷ ys)) e

past_end : (xs : List Seen) (i : ℕ) → length xs ≤ i → drop i xs ≡ []
past_end [] zero le = refl
past_end [] (suc i) le = refl
past_end (x ∷ xs) zero le = absurd (omega (arith, le))
past_end (x ∷ xs) (suc i) le = past_end xs i (omega (arith, le))

here : (script : ℕ) (x : SeenValues) (more : List SeenValues) → (x.script == script) ≡ true
    → record_of script (x ∷ more) ≡ Ok x
here script x more is = rw is refl

elsewhere : (script : ℕ) (x : SeenValues) (more : List SeenValues) → (x.script == script) ≡ false
    → record_of script (x ∷ more) ≡ record_of script more
elsewhere script x more other = rw other refl

pub found_at : (script : ℕ) (xs : List Seen) (i : ℕ) (x : Seen) → i < length xs
    → x ≡ get_or xs i x → (x.script == script) ≡ true
    → record_of script (map seen_values (drop i xs)) ≡ Ok (seen_values x)
found_at script xs i x inside is same =
    ap (λ (l : List Seen). record_of script (map seen_values l)) (at_drop xs i x inside is)
    ∙ here script (seen_values x) (map seen_values (drop (i + 1) xs)) same

pub passed : (script : ℕ) (xs : List Seen) (i : ℕ) (x : Seen) → i < length xs
    → x ≡ get_or xs i x → (x.script == script) ≡ false
    → record_of script (map seen_values (drop (i + 1) xs))
    ≡ record_of script (map seen_values (drop i xs))
passed script xs i x inside is other =
    sym (ap (λ (l : List Seen). record_of script (map seen_values l)) (at_drop xs i x inside is)
    ∙ elsewhere script (seen_values x) (map seen_values (drop (i + 1) xs)) other)

pub missing : (script : ℕ) (xs : List Seen) (i : ℕ) → length xs ≤ i
    → record_of script (map seen_values (drop i xs)) ≡ Err Missing
missing script xs i past =
    ap (λ (l : List Seen). record_of script (map seen_values l)) (past_end xs i past)
