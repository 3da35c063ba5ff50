use Rattle.cert_own.specs.Known.{BoxesKnown}
use Rattle.cert_own.proofs.{EachSearch.each_search, EachOutcome.each_outcome}
use Rattle.cert_own.proofs.{EachOutcome.each_part}
use Rattle.cert_own.proofs.split_laws.each_search_has_an_outcome.Goals as goal

pub returns : goal.returns
returns c =
    let known : BoxesKnown = record {
      lines = c.line_laws.ensures;
      intervals = c.declared_intervals_are_in_order.ensures;
      held = c.the_rule_over_a_box.ensures;
      candidates = c.candidates_are_inside.ensures;
      timings = c.timings_inside_are_choices_inside.ensures;
    } in
    let deep = c.what_a_search_finds_is_as_deep.ensures in
    record {
      search = λ line script k n early there. each_search known script k n line early there;
      outcome = λ line script k n early there small.
          each_outcome known deep line n small script k early there;
      all = λ line n scripts fit small. each_part known deep line n small scripts fit;
    }
