use Rattle.std.proofs.Common.{List, map, sym, ◌∙◌, subst}
use Rattle.std.proofs.lemmas.List.{length-map}
use Rattle.cert_claims.specs.declared.text.claim.ScriptClaims.{ScriptClaims}
use Rattle.cert_claims.specs.text.Grammar.{claims_in, IsCertificate}
use Rattle.cert_claims.specs.{check.ScriptLaws.each_told, check.Verdicts.AreSoundClaims}
use Rattle.cert_claims.proofs.check.whole.check.Goals as goal

pub check_scripts-requires : goal.check_scripts-requires
check_scripts-requires c =
    let line = c.args.compiled.now.line.now in
    let claims : List ScriptClaims = c.as_slice.result.now in
    let P : List ScriptClaims → Type 0 = λ l.
    IsCertificate line c.args.scripts.now (map claims_in l) c.args.cert.now in
    let is : P claims = subst P (sym c.as_slice.ensures.value) c.in-Ok.ensures in
    record {
      fits = c.requires.fits;
      few = c.requires.few;
      many = sym (length-map claims (λ x. claims_in x)) ∙ is.many;
      written = c.certificates_can_be_written.ensures line c.args.scripts.now (map claims_in claims)
          c.args.cert.now is;
    }

pub returns-in-Ok : goal.returns-in-Ok
returns-in-Ok c =
    let line = c.args.compiled.now.line.now in
    let scripts = c.args.scripts.now in
    let bytes = c.args.cert.now in
    let claims : List ScriptClaims = c.as_slice.result.now in
    let P : List ScriptClaims → Type 0 = λ l. IsCertificate line scripts (map claims_in l) bytes in
    let is : P claims = subst P (sym c.as_slice.ensures.value) c.in-Ok.ensures in
    record {
      exact = c.check_scripts.ensures.exact bytes is;
      yes = each_told (λ others. IsCertificate line scripts others bytes) (AreSoundClaims line) scripts
          (map claims_in claims) (λ others. c.a_text_has_one_meaning.ensures line scripts (map claims_in claims) others
          bytes is) c.check_scripts.result c.check_scripts.ensures.yes;
    }

pub returns-in-Err-Fault : goal.returns-in-Err-Fault
returns-in-Err-Fault c = record { exact = c.of_text.ensures; yes = tt }
