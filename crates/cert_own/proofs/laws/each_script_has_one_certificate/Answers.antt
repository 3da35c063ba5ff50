use Rattle.cert_own.proofs.Certificates.{claims_exist, claims_once}
use Rattle.cert_own.proofs.KeyLists.{keys_exist, keys_once}
use Rattle.cert_own.proofs.VerdictLists.{verdicts_exist, verdicts_once}
use Rattle.cert_own.proofs.laws.each_script_has_one_certificate.Goals as goal

pub returns : goal.returns
returns c = record {
  keys = keys_exist c.laws_below.ensures;
  verdicts = verdicts_exist c.laws_below.ensures;
  one_key_list = keys_once c.laws_below.ensures;
  one_verdict_list = verdicts_once c.laws_below.ensures;
  exists = claims_exist c.laws_below.ensures;
  only = claims_once c.laws_below.ensures;
}
