use Rattle.std.proofs.Common.{subst, List}
use Rattle.cert_claims.specs.{text.Grammar.Claims, text.Text.certificate_text}
use Rattle.cert_claims.specs.check.Counts.{AreCounts, all_verdicts}
use Rattle.cert_own.proofs.Certificates.{is_certificate, no_fault, script_accepted}
use Rattle.cert_own.proofs.Certificates.{text_accepted, written}
use Rattle.cert_own.proofs.laws.what_is_certified_is_accepted.Goals as goal

pub returns : goal.returns
returns c =
    let known = c.laws_below.ensures in
    let printed = c.printed_claims_are_a_certificate.ensures in
    record {
      written = written known;
      script = script_accepted known;
      certificate = λ line scripts claims fit are. is_certificate known line printed scripts claims fit are;
      accepted = λ line scripts claims counts fit are counted.
          text_accepted known line printed scripts claims fit are counts counted;
      counts = λ line scripts claims counts fit are is.
          subst (λ (x : List Claims). AreCounts (all_verdicts x) counts)
          (c.a_text_has_one_meaning.ensures line scripts is.claims claims
          (certificate_text line scripts claims) is.is
          (is_certificate known line printed scripts claims fit are))
          is.counted;
      no_fault = λ line scripts claims f fit are is.
          no_fault known line printed scripts claims fit are
          c.a_fault_refuses_the_certificate.ensures f is;
    }
