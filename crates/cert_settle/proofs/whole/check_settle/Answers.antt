use Rattle.std.proofs.Common.{List, map, sym, ◌∙◌, subst, Vec}
use Rattle.std.proofs.lemmas.List.{length-map}
use Rattle.std.specs.declared.alloc.Global.{Global}
use Rattle.cert_settle.specs.declared.claim.TreeClaim.{TreeClaim}
use Rattle.cert_settle.specs.{Grammar.IsSettleText, Reading.results_in}
use Rattle.cert_settle.specs.Results.{AreTold}
use Rattle.cert_claims.specs.check.ScriptLaws.{each_told}
use Rattle.cert_settle.proofs.whole.check_settle.Goals as goal

pub check_scripts-requires : goal.check_scripts-requires
check_scripts-requires c =
    let line = c.args.compiled.now.line.now in
    let parts : List (Vec TreeClaim Global) = c.as_slice.result.now in
    let P : List (Vec TreeClaim Global) → Type 0 = λ l.
    IsSettleText line c.args.scripts.now (map results_in l) c.args.cert.now in
    let is : P parts = subst P (sym c.as_slice.ensures.value) c.in-Ok.ensures in
    record {
      fits = c.requires.fits;
      few = c.requires.few;
      many = sym (length-map parts results_in) ∙ is.many;
      one_each = is.each;
    }

pub returns-in-Ok : goal.returns-in-Ok
returns-in-Ok c =
    let line = c.args.compiled.now.line.now in
    let scripts = c.args.scripts.now in
    let bytes = c.args.cert.now in
    let parts : List (Vec TreeClaim Global) = c.as_slice.result.now in
    let P : List (Vec TreeClaim Global) → Type 0 = λ l.
    IsSettleText line scripts (map results_in l) bytes in
    let is : P parts = subst P (sym c.as_slice.ensures.value) c.in-Ok.ensures in
    record {
      exact = c.check_scripts.ensures.exact bytes is;
      sound = each_told (λ others. IsSettleText line scripts others bytes) (AreTold line) scripts
          (map results_in parts) (λ others. c.a_settle_text_has_one_meaning.ensures line scripts (map results_in parts) others
          bytes is) c.check_scripts.result c.check_scripts.ensures.told;
    }
