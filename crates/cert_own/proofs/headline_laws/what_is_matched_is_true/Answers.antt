use Rattle.cert_own.proofs.MatchLines.{Known, match_is_true}
use Rattle.cert_own.proofs.MatchStatuses.{all_given, some_impossible, some_open}
use Rattle.cert_own.proofs.headline_laws.what_is_matched_is_true.Goals as goal

pub returns : goal.returns
returns c =
    let known : Known = record {
      lines = c.line_laws.ensures;
      intervals = c.declared_intervals_are_in_order.ensures;
      candidates = c.candidates_are_inside.ensures;
      timings = c.timings_inside_are_choices_inside.ensures;
      allowed = c.what_a_choice_gives_is_allowed.ensures;
    } in
    record {
      text = λ line scripts records first second text front rest name i said fit.
          match_is_true known line scripts fit records first second text front rest name i said;
      all = λ line scripts records text of is.
          all_given known line scripts records is.heads of is.are_heads is.impossible_is
          is.unsettled_is;
      some_impossible = λ line scripts records second text of is.
          some_impossible known line scripts records is.heads of is.are_heads is.impossible_is;
      some_open = λ line scripts records first text of is.
          some_open known line scripts records is.heads of is.are_heads is.unsettled_is;
    }
