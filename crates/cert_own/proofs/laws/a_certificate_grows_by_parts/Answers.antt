use Rattle.std.proofs.lemmas.Slice.Zip.{AllZip-long}
use Rattle.model_history.specs.ZipLaws.{zip_push}
use Rattle.cert_own.specs.Certified.{IsCertified}
use Rattle.cert_own.proofs.Certificates.{text_more}
use Rattle.cert_own.proofs.laws.a_certificate_grows_by_parts.Goals as goal

pub returns : goal.returns
returns c = record {
  text = text_more;
  claims = λ line scripts claims script said are is.
      zip_push (IsCertified line) scripts claims script said are is;
  many = λ line scripts claims are. AllZip-long (IsCertified line) scripts claims are;
}
