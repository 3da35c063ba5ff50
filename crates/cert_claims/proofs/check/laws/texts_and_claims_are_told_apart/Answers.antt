use Rattle.cert_claims.proofs.check.laws.texts_and_claims_are_told_apart.Goals as goal

pub returns : goal.returns
returns c = record {
  texts = λ line scripts bytes. record {
    one = λ claims others. c.a_text_has_one_meaning.ensures line scripts claims others bytes;
    line = c.a_text_leaves_at_one_line.ensures.one line scripts bytes;
    none = λ claims n. c.a_text_leaves_at_one_line.ensures.refused line scripts claims bytes n;
  };
  claims = λ line. record {
    refused = c.a_fault_refuses_the_claims.ensures line;
    one = c.claims_have_one_first_fault.ensures line;
  };
}
