use Rattle.std.proofs.Common.{ℕ, ◌<◌, List, length, map, ◌∙◌, ap, arith}
use Rattle.std.proofs.lemmas.Option.{slice_get_within}
use Rattle.std.proofs.lemmas.List.{length-map}
use Rattle.std.proofs.lemmas.Result.{err_from_is_err_and}
use Rattle.model_line.specs.Parameters.{terminal_count}
use Rattle.model_logic.specs.Logic.{trip_tree}
use Rattle.net_gates.specs.Formulas.{formula_of}
use Rattle.cert_claims.specs.declared.text.claim.Claim.{Claim}
use Rattle.cert_claims.specs.text.Grammar.{HasNumbers, Verdict, verdict_in}
use Rattle.cert_claims.specs.check.Verdicts.{IsSupported, IsFaultOf}
use Rattle.run_waves.specs.derived.Claims.{derived_trip}
use Rattle.cert_claims.specs.check.ScriptLaws.{each_mapped, first_wrong, slice_mapped, one_more}
use Rattle.cert_claims.proofs.check_lemmas.Acceptance.{tree_pairs}
use Rattle.cert_claims.proofs.check.script_check.check_verdicts.Goals as goal

pub loop-i-preserved : goal.loop-i-preserved
loop-i-preserved c = λ claims are.
    let line = c.args.compiled.now.line.now in
    let script = c.args.script.now in
    let gates = c.args.compiled.now.net.now.gates in
    let verdicts : List Claim = c.args.verdicts.now in
    let i : ℕ = c.loop-i.i in
    let item : Claim = c.index-verdicts-i.result in
    let inside : i < length verdicts = omega (arith, c.loop-i-test.true) in
    let there : i < terminal_count line = omega (arith, inside, c.requires.many) in
    one_more (λ k v. IsSupported line script k (derived_trip line script claims k) v)
    (map verdict_in verdicts) i (verdict_in item)
    (slice_mapped (λ x. verdict_in x) verdicts i item inside c.index-verdicts-i.is)
    (c.loop-i.invariant claims are)
    (c.in_ok-check_claim.ensures (derived_trip line script claims i)
    (tree_pairs line script gates claims c.args.waves.now c.trip_gate.result.0 (trip_tree line i)
    c.nth-trip.result.now are c.trip_gate.ensures.exists
    (ap (formula_of gates) c.trip_gate.ensures.is ∙ c.args.compiled.now.of_line.trips i there)
    c.nth-trip.ensures))

pub check_claim-requires-clause-numbers : goal.check_claim-requires-clause-numbers
check_claim-requires-clause-numbers c =
    each_mapped (λ x. verdict_in x) c.args.verdicts.now c.loop-i.i c.index-verdicts-i.result
    (omega (arith, c.loop-i-test.true)) c.index-verdicts-i.is
    (HasNumbers c.args.compiled.now.line.now)
    c.requires.numbers

pub returns-in_err-check_claim : goal.returns-in_err-check_claim
returns-in_err-check_claim c =
    let p = err_from_is_err_and c.from_residual.result c.from_residual.ensures.1 in
    let line = c.args.compiled.now.line.now in
    let script = c.args.script.now in
    let gates = c.args.compiled.now.net.now.gates in
    let verdicts : List Claim = c.args.verdicts.now in
    let i : ℕ = c.loop-i.i in
    let item : Claim = c.index-verdicts-i.result in
    let inside : i < length verdicts = omega (arith, c.loop-i-test.true) in
    let there : i < terminal_count line = omega (arith, inside, c.requires.many) in
    rw (p.1, p.2) (λ claims are.
    first_wrong (λ k. IsSupported line script k (derived_trip line script claims k))
    (λ k. IsFaultOf line script k (derived_trip line script claims k)) (map verdict_in verdicts) i
    (verdict_in item) (slice_mapped (λ x. verdict_in x) verdicts i item inside c.index-verdicts-i.is)
    (c.loop-i.invariant claims are) c.in_err-check_claim.field-0.0
    (c.in_err-check_claim.ensures (derived_trip line script claims i)
    (tree_pairs line script gates claims c.args.waves.now c.trip_gate.result.0
    (trip_tree line i) c.nth-trip.result.now are c.trip_gate.ensures.exists
    (ap (formula_of gates) c.trip_gate.ensures.is ∙ c.args.compiled.now.of_line.trips i there)
    c.nth-trip.ensures)))

pub returns : goal.returns
returns c = λ claims are k verdict at.
    let said : List Verdict = map verdict_in c.args.verdicts.now in
    let inside : k < length said = slice_get_within said k verdict at in
    c.loop-i.invariant claims are k verdict
    (omega (
      arith,
      inside,
      length-map c.args.verdicts.now (λ x. verdict_in x),
      c.loop-i-test.false,
    )) at
