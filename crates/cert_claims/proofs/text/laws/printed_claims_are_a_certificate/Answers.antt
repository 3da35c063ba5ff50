use Rattle.cert_claims.proofs.text_lemmas.WrittenLaws.{text_is_certificate}
use Rattle.cert_claims.proofs.text.laws.printed_claims_are_a_certificate.Goals as goal

pub returns : goal.returns
returns c = text_is_certificate c.the_text_of_a_wave_is_one_line.ensures
