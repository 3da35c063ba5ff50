use Rattle.std.proofs.Common.{List, map, sym, ◌∙◌, subst, Vec}
use Rattle.std.proofs.lemmas.List.{length-map}
use Rattle.std.specs.declared.alloc.Global.{Global}
use Rattle.cert_split.specs.declared.text.claim.SplitClaim.{SplitClaim}
use Rattle.cert_split.specs.{text.Grammar.IsSplitText, text.Reading.results_in}
use Rattle.cert_split.specs.check.Results.{AreTold}
use Rattle.cert_claims.specs.check.ScriptLaws.{each_told}
use Rattle.cert_split.proofs.check.whole.check_split.Goals as goal

pub check_scripts-requires : goal.check_scripts-requires
check_scripts-requires c =
    let line = c.args.compiled.now.line.now in
    let parts : List (Vec SplitClaim Global) = c.as_slice.result.now in
    let P : List (Vec SplitClaim Global) → Type 0 = λ l.
    IsSplitText line c.args.scripts.now (map results_in l) c.args.cert.now in
    let is : P parts = subst P (sym c.as_slice.ensures.value) c.in-Ok.ensures in
    record {
      fits = c.requires.fits;
      few = c.requires.few;
      many = sym (length-map parts results_in) ∙ is.many;
      one_each = is.each;
    }

pub returns-in-Ok : goal.returns-in-Ok
returns-in-Ok c =
    let line = c.args.compiled.now.line.now in
    let scripts = c.args.scripts.now in
    let bytes = c.args.cert.now in
    let parts : List (Vec SplitClaim Global) = c.as_slice.result.now in
    let P : List (Vec SplitClaim Global) → Type 0 = λ l.
    IsSplitText line scripts (map results_in l) bytes in
    let is : P parts = subst P (sym c.as_slice.ensures.value) c.in-Ok.ensures in
    record {
      exact = c.check_scripts.ensures.exact bytes is;
      sound = each_told (λ others. IsSplitText line scripts others bytes) (AreTold line) scripts
          (map results_in parts) (λ others. c.a_split_text_has_one_meaning.ensures line scripts (map results_in parts) others
          bytes is) c.check_scripts.result c.check_scripts.ensures.told;
    }

pub returns-in-Err-Fault : goal.returns-in-Err-Fault
returns-in-Err-Fault c = record { exact = c.of_text.ensures; sound = tt }
