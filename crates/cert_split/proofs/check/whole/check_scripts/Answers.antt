use Rattle.std.proofs.Common.{◌<◌, ◌≤◌, ℕ, List, length, map, sym, arith, subst}
use Rattle.std.proofs.Common.{Vec}
use Rattle.std.specs.declared.alloc.Global.{Global}
use Rattle.model_line.specs.{declared.script.Script.Script, Fits.Fits}
use Rattle.cert_split.specs.declared.text.claim.SplitClaim.{SplitClaim}
use Rattle.cert_split.specs.{text.Grammar.HasOneEach, text.Reading.result_in, text.Reading.results_in}
use Rattle.cert_split.specs.check.Results.{AreSupported, AreTold, IsFirstFault}
use Rattle.cert_split.specs.{declared.check.fault.ResultFault.ResultFault, check.Check.IsSplitFault}
use Rattle.cert_claims.specs.check.ScriptLaws.{each_mapped, script_at, one_script}
use Rattle.cert_split.proofs.check_lemmas.OneSplitFault.{told}
use Rattle.cert_split.proofs.check.whole.check_scripts.Goals as goal

pub check_results-requires-clause-fits : goal.check_results-requires-clause-fits
check_results-requires-clause-fits c =
    let scripts : List Script = c.args.scripts.now in
    let i : ℕ = c.loop-i.i in
    let inside : i < length scripts = omega (arith, c.loop-i-test.true) in
    subst (Fits c.args.compiled.now.line.now) (sym c.index-scripts-i.is)
    (c.requires.fits i c.index-scripts-i.result inside)

pub check_results-requires-clause-one_each : goal.check_results-requires-clause-one_each
check_results-requires-clause-one_each c =
    let line = c.args.compiled.now.line.now in
    let parts : List (Vec SplitClaim Global) = c.args.parts.now in
    let i : ℕ = c.loop-i.i in
    let item : Vec SplitClaim Global = c.index-parts-i.result in
    let inside : i < length parts = omega (arith, c.loop-i-test.true, c.requires.many) in
    subst (λ (l : List SplitClaim). HasOneEach line (map result_in l)) (sym c.as_slice.ensures.value)
    (each_mapped results_in parts i item inside c.index-parts-i.is (HasOneEach line)
    c.requires.one_each)

pub loop-i-preserved : goal.loop-i-preserved
loop-i-preserved c =
    let line = c.args.compiled.now.line.now in
    let scripts : List Script = c.args.scripts.now in
    let parts : List (Vec SplitClaim Global) = c.args.parts.now in
    let i : ℕ = c.loop-i.i in
    let script : Script = c.index-scripts-i.result in
    let item : Vec SplitClaim Global = c.index-parts-i.result in
    let at = script_at results_in scripts parts i script item (omega (arith, c.loop-i-test.true))
    c.requires.many c.index-scripts-i.is c.index-parts-i.is in
    record {
      supported = one_script (AreSupported line) scripts (map results_in parts) i script
          (results_in item) at.0 at.1 c.loop-i.invariant.supported
          (subst (λ (l : List SplitClaim). AreSupported line script (map result_in l))
          c.as_slice.ensures.value c.in-Ok.ensures.exact);
      told = one_script (AreTold line) scripts (map results_in parts) i script
          (results_in item) at.0 at.1 c.loop-i.invariant.told
          (subst (λ (l : List SplitClaim). AreTold line script (map result_in l))
          c.as_slice.ensures.value c.in-Ok.ensures.told);
    }

pub returns-in-Err-Fault : goal.returns-in-Err-Fault
returns-in-Err-Fault c =
    let line = c.args.compiled.now.line.now in
    let scripts : List Script = c.args.scripts.now in
    let parts : List (Vec SplitClaim Global) = c.args.parts.now in
    let i : ℕ = c.loop-i.i in
    let script : Script = c.index-scripts-i.result in
    let item : Vec SplitClaim Global = c.index-parts-i.result in
    let fault : ResultFault = c.in-Err-Fault.fault in
    let at = script_at results_in scripts parts i script item (omega (arith, c.loop-i-test.true))
    c.requires.many c.index-scripts-i.is c.index-parts-i.is in
    record {
      exact = λ bytes is. subst (IsSplitFault line scripts bytes)
          (sym (rw c.in-Err-Fault.field-0-is at c.in_script.ensures))
          (told line scripts bytes i fault (record {
            claims = map results_in parts;
            is = is;
            script = script;
            said = results_in item;
            script_is = at.0;
            said_is = at.1;
            before = c.loop-i.invariant.supported;
            wrong = subst (λ (l : List SplitClaim).
                IsFirstFault line script (map result_in l) fault)
                c.as_slice.ensures.value
                (rw c.in-Err-Fault.field-0-is at c.in-Err-Fault.ensures.exact);
          }));
      told = tt;
    }

pub counts_of-requires : goal.counts_of-requires
counts_of-requires c = record {
  few = omega (arith, c.requires.few, c.requires.many);
  each = λ k d lt. omega (
    arith,
    (c.requires.one_each k d lt).many,
    c.args.compiled.now.line.now.two_or_three.1,
  );
}

pub returns : goal.returns
returns c =
    let scripts : List Script = c.args.scripts.now in
    let done : length scripts ≤ c.loop-i.i = omega (arith, c.loop-i-test.false) in
    record {
      exact = λ bytes is. record {
        claims = map results_in c.args.parts.now;
        is = is;
        each = λ k script said lt. c.loop-i.invariant.supported k script said
            (omega (arith, lt, done));
        counted = c.counts_of.ensures;
      };
      told = λ k script said lt. c.loop-i.invariant.told k script said (omega (arith, lt, done));
    }
