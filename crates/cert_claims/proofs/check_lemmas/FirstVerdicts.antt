-- The verdicts of the first claims and scripts, one by one.
use Rattle.std.proofs.Common.{◌≡◌, ◌<◌, ◌≤◌, ◌+◌, ◌++◌, ℕ, List, [], ◌∷◌, length, map, take}
use Rattle.std.proofs.Common.{get_or, sym, ◌∙◌, ap, arith}
use Rattle.std.proofs.lemmas.List.{map-append, take_more, append-nil, length-map, length-take-le}
use Rattle.std.proofs.lemmas.Grind.{flat_map-append}
use Rattle.std.specs.List.{All}
use Rattle.cert_claims.specs.text.Grammar.{Claims, Verdict, verdict_in, claims_in}
use Rattle.cert_claims.specs.{declared.text.claim.Claim.Claim, declared.text.claim.ScriptClaims.ScriptClaims}
use Rattle.cert_claims.specs.check.Counts.{all_verdicts}
use Rattle.cert_claims.specs.check.ScriptLaws.{each_mapped}

-- the first verdicts, one more
pub first_verdicts : (written : List Claim) (i : ℕ) (item : Claim) → i < length written
    → item ≡ get_or written i item
    → map verdict_in (take i written) ++ verdict_in item ∷ [] ≡ map verdict_in (take (i + 1) written)
first_verdicts written i item inside is =
    ap (λ (w : Claim). map verdict_in (take i written) ++ verdict_in w ∷ []) is
    ∙ sym (map-append (λ x. verdict_in x) (take i written) (get_or written i item ∷ []))
    ∙ ap (λ (l : List Claim). map verdict_in l) (sym (take_more written i item inside))

-- those of the first scripts, one more
pub first_scripts : (claims : List ScriptClaims) (i : ℕ) (item : ScriptClaims) → i < length claims
    → item ≡ get_or claims i item
    → all_verdicts (map claims_in (take i claims)) ++ map verdict_in item.verdicts.items
    ≡ all_verdicts (map claims_in (take (i + 1) claims))
first_scripts claims i item inside is =
    let now : ScriptClaims = get_or claims i item in
    ap (λ (s : ScriptClaims). all_verdicts (map claims_in (take i claims)) ++ map verdict_in s.verdicts.items) is
    ∙ ap (λ (l : List Verdict). all_verdicts (map claims_in (take i claims)) ++ l) (sym (append-nil (map verdict_in now.verdicts.items)))
    ∙ sym (flat_map-append (λ (said : Claims). said.verdicts) (map claims_in (take i claims)) (claims_in now ∷ []))
    ∙ ap (λ (l : List Claims). all_verdicts l)
    (sym (map-append (λ x. claims_in x) (take i claims) (now ∷ []))
    ∙ ap (λ (l : List ScriptClaims). map claims_in l) (sym (take_more claims i item inside)))

-- what is said of one of the scripts has few verdicts
pub few_verdicts : (claims : List ScriptClaims) (i : ℕ) (item : ScriptClaims) → i < length claims
    → item ≡ get_or claims i item → All (λ said. length said.verdicts ≤ 3) (map claims_in claims)
    → length item.verdicts.items ≤ 3
few_verdicts claims i item inside is each =
    let few : length (map verdict_in item.verdicts.items) ≤ 3 =
    each_mapped (λ x. claims_in x) claims i item inside is (λ said. length said.verdicts ≤ 3) each in
    omega (arith, few, length-map item.verdicts.items (λ x. verdict_in x))

-- the first of few verdicts are few
pub few_first : (written : List Claim) (i : ℕ) → i ≤ length written → length written ≤ 3
    → length (map verdict_in (take i written)) ≤ 3
few_first written i le few =
    omega (arith, few, le, length-map (take i written) (λ x. verdict_in x), length-take-le i written le)
