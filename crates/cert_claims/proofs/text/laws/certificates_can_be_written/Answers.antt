use Rattle.cert_claims.proofs.text_lemmas.ReadBack.{can_be_written}
use Rattle.cert_claims.proofs.text.laws.certificates_can_be_written.Goals as goal

pub returns : goal.returns
returns c = can_be_written
