use Rattle.cert_settle.proofs.OneFault.{results_refused, results_once}
use Rattle.cert_settle.proofs.check_laws.texts_and_results_are_told_apart.Goals as goal

pub returns : goal.returns
returns c =
    let meaning = c.a_settle_text_has_one_meaning.ensures in
    let lines = c.a_settle_text_leaves_at_one_line.ensures in
    let of_no = c.a_timing_has_one_fault.ensures in
    record {
      texts = λ line scripts bytes. record {
        one = λ parts others. meaning line scripts parts others bytes;
        line = lines.one line scripts bytes;
        none = λ parts n. lines.refused line scripts parts bytes n;
      };
      results = λ line. record {
        refused = λ script results f. results_refused
            (record { one = of_no.one; refused = of_no.refused }) line script results f;
        one = λ script results f g. results_once
            (record { one = of_no.one; refused = of_no.refused }) line script results f g;
      };
    }
