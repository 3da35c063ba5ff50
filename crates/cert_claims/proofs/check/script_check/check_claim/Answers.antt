use Rattle.std.proofs.Common.{ℕ, refl, sym, subst}
use Rattle.model_logic.specs.Rule.{IsHeld}
use Rattle.model_logic.specs.RuleLaws.{held_same}
use Rattle.run_waves.specs.waves.Waves.{wave_at}
use Rattle.cert_claims.specs.{declared.text.claim.Claim.Claim, text.Grammar.verdict_in}
use Rattle.cert_claims.specs.declared.check.claim.ClaimFault.TheVariants.{NotHeld}
use Rattle.cert_claims.specs.check.Verdicts.{IsSupported, IsFaultOf}
use Rattle.model_history.specs.TruthLaws.{not_both}
use Rattle.cert_claims.proofs.check.script_check.check_claim.Goals as goal

pub returns-then-is_held : goal.returns-then-is_held
returns-then-is_held c = λ pairs same.
    let line = c.args.compiled.now.line.now in
    let script = c.args.script.now in
    let trip = wave_at c.args.trip.now in
    let P : ℕ → Type 0 = λ n. IsHeld script.kind script.deadline n trip in
    let held : P line.horizon = subst P c.requires.trip (c.is_held.ensures.0 c.if-is_held.true) in
    subst (λ (x : Claim). IsSupported line script c.args.terminal pairs (verdict_in x))
    (sym c.in-Yes.is)
    ((c.the_rule_is_exact.ensures.held line script pairs).1
    (held_same script.kind script.deadline line.horizon trip pairs
    (c.deadlines_are_below_the_horizon.ensures line script c.requires.fits) same held))

pub returns-else-is_held : goal.returns-else-is_held
returns-else-is_held c = λ pairs same.
    let line = c.args.compiled.now.line.now in
    let script = c.args.script.now in
    let k : ℕ = c.args.terminal in
    let trip = wave_at c.args.trip.now in
    let P : ℕ → Type 0 = λ n. IsHeld script.kind script.deadline n trip in
    subst (λ (x : Claim). IsFaultOf line script k pairs (verdict_in x) (NotHeld k))
    (sym c.in-Yes.is) (
      refl,
      λ rule.
          let held : P line.horizon = held_same script.kind script.deadline line.horizon pairs trip
          (c.deadlines_are_below_the_horizon.ensures line script c.requires.fits) (λ t lt. sym (same t lt))
          ((c.the_rule_is_exact.ensures.held line script pairs).0 rule) in
          not_both c.is_held.result c.if-is_held.false
          (c.is_held.ensures.1 (subst P (sym c.requires.trip) held)),
    )
