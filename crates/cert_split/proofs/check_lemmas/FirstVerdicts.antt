-- The verdicts of the first results and scripts, one by one.
use Rattle.std.proofs.Common.{◌≡◌, ◌<◌, ◌≤◌, ◌+◌, ◌++◌, ℕ, List, [], ◌∷◌, length, map, take}
use Rattle.std.proofs.Common.{get_or, sym, ◌∙◌, ap, arith, Vec}
use Rattle.std.proofs.lemmas.List.{map-append, take_more, append-nil, length-map, length-take-le}
use Rattle.std.proofs.lemmas.Grind.{flat_map-append}
use Rattle.std.specs.declared.alloc.Global.{Global}
use Rattle.cert_claims.specs.text.Grammar.{Verdict}
use Rattle.cert_split.specs.declared.text.claim.SplitClaim.{SplitClaim}
use Rattle.cert_split.specs.{text.Grammar.SplitResult, text.Reading.result_in, text.Reading.results_in}
use Rattle.cert_split.specs.check.Counts.{verdict_of, all_verdicts}

-- the verdicts of claims that were read
abbrev pub verdicts_in : List SplitClaim → List Verdict
verdicts_in claims = map verdict_of (map result_in claims)

-- the first claims, one more
pub claims_more : (claims : List SplitClaim) (i : ℕ) (item : SplitClaim) → i < length claims
    → item ≡ get_or claims i item
    → verdicts_in (take i claims) ++ verdict_of (result_in item) ∷ []
    ≡ verdicts_in (take (i + 1) claims)
claims_more claims i item inside is =
    ap (λ (w : SplitClaim). verdicts_in (take i claims) ++ verdict_of (result_in w) ∷ []) is
    ∙ sym (ap (map verdict_of) (map-append result_in (take i claims) (get_or claims i item ∷ []))
    ∙ map-append verdict_of (map result_in (take i claims))
    (result_in (get_or claims i item) ∷ []))
    ∙ ap verdicts_in (sym (take_more claims i item inside))

-- those of the first scripts, one more
pub parts_more : (parts : List (Vec SplitClaim Global)) (i : ℕ) (item : Vec SplitClaim Global)
    → i < length parts → item ≡ get_or parts i item
    → all_verdicts (map results_in (take i parts)) ++ verdicts_in item.items
    ≡ all_verdicts (map results_in (take (i + 1) parts))
parts_more parts i item inside is =
    let now : Vec SplitClaim Global = get_or parts i item in
    let before : List (List SplitResult) = map results_in (take i parts) in
    ap (λ (v : Vec SplitClaim Global). all_verdicts before ++ verdicts_in v.items) is
    ∙ ap (λ (l : List Verdict). all_verdicts before ++ l) (sym (append-nil (verdicts_in now.items)))
    ∙ sym (flat_map-append (map verdict_of) before (results_in now ∷ []))
    ∙ ap all_verdicts (sym (map-append results_in (take i parts) (now ∷ []))
    ∙ ap (map results_in) (sym (take_more parts i item inside)))

pub few_first : (claims : List SplitClaim) (i : ℕ) → i ≤ length claims → length claims ≤ 3
    → length (verdicts_in (take i claims)) ≤ 3
few_first claims i le few =
    omega (
      arith,
      few,
      le,
      length-map (map result_in (take i claims)) verdict_of,
      length-map (take i claims) result_in,
      length-take-le i claims le,
    )

pub few_verdicts : (claims : List SplitClaim) → length claims ≤ 3
    → length (verdicts_in claims) ≤ 3
few_verdicts claims few =
    omega (arith, few, length-map (map result_in claims) verdict_of, length-map claims result_in)
