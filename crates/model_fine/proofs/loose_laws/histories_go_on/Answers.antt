use Rattle.model_fine.proofs.Onward.{goes_on}
use Rattle.model_fine.proofs.loose_laws.histories_go_on.Goals as goal

pub returns : goal.returns
returns c n line long shown choice long_choice h on onward one is_h =
    goes_on c.history_laws.ensures c.line_laws.ensures.trees
    c.trees_do_not_rest_on_the_intervals.ensures n line long shown choice long_choice h on onward one is_h
