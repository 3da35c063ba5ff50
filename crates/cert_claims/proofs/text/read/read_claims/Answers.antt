use Rattle.std.proofs.Common.{◌≡◌, List, ℕ, ◌++◌, map, ◌∙◌, ap, length, subst, sym}
use Rattle.std.proofs.lemmas.List.{length-map}
use Rattle.std.proofs.lemmas.Simd.{map-map}
use Rattle.std.proofs.lemmas.Result.{err_from_is_err_and}
use Rattle.base_text.specs.{lines.LineLaws.goes_then, lines.ReadLaws.later_fault}
use Rattle.base_text.specs.{lines.Grammar.IsFault, lines.Lines.Goes}
use Rattle.cert_claims.specs.text.Grammar.{Place, Said, Stands, opens_none, grammar_of, key_of}
use Rattle.cert_claims.specs.text.Grammar.{verdict_of, says_key, says_verdict, verdict_in, claim_places}
use Rattle.cert_claims.proofs.text_lemmas.ReadLaws.{both_places}
use Rattle.cert_claims.proofs.text.read.read_claims.Goals as goal

pub returns-in_err-keys : goal.returns-in_err-keys
returns-in_err-keys c =
    let p = err_from_is_err_and c.from_residual.result c.from_residual.ensures.1 in
    let line = c.args.line.now in
    let terminals = c.as_slice-terminals.result.now in
    rw (p.1, p.2) (λ later.
    let P : List Place → Type 0 = λ l. IsFault (grammar_of line) l c.args.lines.now.rest.now
    c.args.lines.now.number c.in_err-keys.field-0.0 in
    subst P (both_places line terminals c.as_slice-terminals.ensures.value later)
    (c.in_err-keys.ensures (map (λ t. verdict_of t.name) terminals ++ later)))

pub returns-in_err-verdicts : goal.returns-in_err-verdicts
returns-in_err-verdicts c =
    let p = err_from_is_err_and c.from_residual-in_err-verdicts.result
    c.from_residual-in_err-verdicts.ensures.1 in
    let line = c.args.line.now in
    let terminals = c.as_slice-terminals.result.now in
    let keys : List Place = map (λ t. key_of t.name) terminals in
    rw (p.1, p.2) (λ later.
    let rest : List Place = map (λ t. verdict_of t.name) terminals ++ later in
    let P : List Place → Type 0 = λ l. IsFault (grammar_of line) l c.args.lines.now.rest.now
    c.args.lines.now.number c.in_err-verdicts.field-0.0 in
    subst P (both_places line terminals c.as_slice-terminals.ensures.value later)
    (later_fault (grammar_of line) (keys ++ rest) (map (λ w. says_key w) c.in_ok-keys.keys.items)
    c.args.lines.now.rest.now c.args.lines.now.number rest c.read_lines.new.lines.rest.now
    c.read_lines.new.lines.number c.in_err-verdicts.field-0.0 (c.in_ok-keys.ensures rest).1
    (c.in_err-verdicts.ensures later)))

pub returns : goal.returns
returns c = λ later.
    let line = c.args.line.now in
    let terminals = c.as_slice-terminals.result.now in
    let all = c.as_slice-terminals.ensures.value in
    let keys : List Place = map (λ t. key_of t.name) terminals in
    let rest : List Place = map (λ t. verdict_of t.name) terminals ++ later in
    let waves = c.in_ok-keys.keys.items in
    let claims = c.in_ok-verdicts.verdicts.items in
    let text : List ℕ = c.args.lines.now.rest.now in
    let a : ℕ = c.args.lines.now.number in
    let last : List ℕ = c.read_lines-2.new.lines.rest.now in
    let next : ℕ = c.read_lines-2.new.lines.number in
    let said : List Said = map (λ c. says_verdict (verdict_in c)) claims in
    let told : said ≡ map says_verdict (map verdict_in claims) =
    sym (map-map says_verdict verdict_in claims) in
    let both = goes_then (Stands line) opens_none (keys ++ rest) (map says_key waves) text a rest
    c.read_lines.new.lines.rest.now c.read_lines.new.lines.number said later last next
    (c.in_ok-keys.ensures rest).1 (c.in_ok-verdicts.ensures later).1 in
    let P : List Place → Type 0 = λ l. Goes (Stands line) opens_none l (map says_key waves ++ said)
    text a later last next in
    let Q : List Said → Type 0 = λ l. Goes (Stands line) opens_none (claim_places line ++ later)
    (map says_key waves ++ l) text a later last next in (
      record {
        keys = (c.in_ok-keys.ensures rest).0 ∙ ap length all;
        verdicts = length-map claims (λ x. verdict_in x) ∙ (c.in_ok-verdicts.ensures later).0
            ∙ ap length all;
      },
      subst Q told (subst P (both_places line terminals all later) both),
    )
