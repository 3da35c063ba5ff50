use Rattle.cert_own.specs.Known.{LinesKnown}
use Rattle.cert_own.proofs.{OneSearch.search_once, OneOutcome.outcome_once}
use Rattle.cert_own.proofs.{OneOutcome.parts_once}
use Rattle.cert_own.proofs.split_laws.each_search_has_one_outcome.Goals as goal

pub returns : goal.returns
returns c =
    let known : LinesKnown = record {
      lines = c.line_laws.ensures;
      counts = c.counts_do_not_rest_on_the_intervals.ensures;
      histories = c.histories_do_not_rest_on_the_intervals.ensures;
    } in
    record {
      search = λ line script k n found other a b. search_once known script k n line found other a b;
      outcome = λ line script k n a b p q. outcome_once known line n script k a b p q;
      only = λ line n scripts a b p q. parts_once known line n scripts a b p q;
    }
