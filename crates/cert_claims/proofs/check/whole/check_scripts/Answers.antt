use Rattle.std.proofs.Common.{◌<◌, ◌≤◌, ℕ, List, length, map, sym, arith, subst}
use Rattle.model_line.specs.{declared.script.Script.Script, Fits.Fits}
use Rattle.cert_claims.specs.declared.text.claim.ScriptClaims.{ScriptClaims}
use Rattle.cert_claims.specs.{text.Grammar.claims_in, text.Text.CanBeWritten}
use Rattle.cert_claims.specs.{check.Check.IsCheckFault, check.Verdicts.AreAccepted, check.Verdicts.AreSoundClaims}
use Rattle.cert_claims.specs.check.ScriptLaws.{each_mapped, script_at, one_script}
use Rattle.cert_claims.proofs.check_lemmas.OneCheckFault.{told}
use Rattle.cert_claims.proofs.check.whole.check_scripts.Goals as goal

pub check_claims-requires : goal.check_claims-requires
check_claims-requires c =
    let scripts : List Script = c.args.scripts.now in
    let claims : List ScriptClaims = c.args.claims.now in
    let i : ℕ = c.loop-i.i in
    let inside : i < length scripts = omega (arith, c.loop-i-test.true) in
    record {
      fits = subst (Fits c.args.compiled.now.line.now) (sym c.index-scripts-i.is)
          (c.requires.fits i c.index-scripts-i.result inside);
      written = each_mapped (λ x. claims_in x) claims i c.index-claims-i.result
          (omega (arith, inside, c.requires.many)) c.index-claims-i.is
          (CanBeWritten c.args.compiled.now.line.now) c.requires.written;
    }

pub loop-i-preserved : goal.loop-i-preserved
loop-i-preserved c =
    let line = c.args.compiled.now.line.now in
    let scripts : List Script = c.args.scripts.now in
    let claims : List ScriptClaims = c.args.claims.now in
    let i : ℕ = c.loop-i.i in
    let script : Script = c.index-scripts-i.result in
    let said : ScriptClaims = c.index-claims-i.result in
    let at = script_at (λ x. claims_in x) scripts claims i script said
    (omega (arith, c.loop-i-test.true)) c.requires.many c.index-scripts-i.is c.index-claims-i.is in
    record {
      accepted = one_script (AreAccepted line) scripts (map claims_in claims) i script
          (claims_in said) at.0 at.1 c.loop-i.invariant.accepted c.in-Ok.ensures.exact;
      sound = one_script (AreSoundClaims line) scripts (map claims_in claims) i script
          (claims_in said) at.0 at.1 c.loop-i.invariant.sound c.in-Ok.ensures.yes;
    }

pub returns-in-Err-Fault : goal.returns-in-Err-Fault
returns-in-Err-Fault c =
    let line = c.args.compiled.now.line.now in
    let scripts : List Script = c.args.scripts.now in
    let claims : List ScriptClaims = c.args.claims.now in
    let i : ℕ = c.loop-i.i in
    let script : Script = c.index-scripts-i.result in
    let said : ScriptClaims = c.index-claims-i.result in
    let at = script_at (λ x. claims_in x) scripts claims i script said
    (omega (arith, c.loop-i-test.true)) c.requires.many c.index-scripts-i.is c.index-claims-i.is in
    record {
      exact = λ bytes is. subst (IsCheckFault line scripts bytes)
          (sym (rw c.in-Err-Fault.field-0-is at c.in_script.ensures))
          (told line scripts bytes i c.in-Err-Fault.fault (record {
            claims = map claims_in claims;
            is = is;
            script = script;
            said = claims_in said;
            script_is = at.0;
            said_is = at.1;
            before = c.loop-i.invariant.accepted;
            wrong = rw c.in-Err-Fault.field-0-is at c.in-Err-Fault.ensures.exact;
          }));
      yes = tt;
    }

pub counts_of-requires : goal.counts_of-requires
counts_of-requires c = record {
  few = omega (arith, c.requires.few, c.requires.many);
  each = λ k d lt. omega (
    arith,
    (c.requires.written k d lt).each.verdicts,
    c.args.compiled.now.line.now.two_or_three.1,
  );
}

pub returns : goal.returns
returns c =
    let scripts : List Script = c.args.scripts.now in
    let done : length scripts ≤ c.loop-i.i = omega (arith, c.loop-i-test.false) in
    record {
      exact = λ bytes is. record {
        claims = map claims_in c.args.claims.now;
        is = is;
        each = λ k script said lt. c.loop-i.invariant.accepted k script said
            (omega (arith, lt, done));
        counted = c.counts_of.ensures;
      };
      yes = λ k script said lt. c.loop-i.invariant.sound k script said (omega (arith, lt, done));
    }
