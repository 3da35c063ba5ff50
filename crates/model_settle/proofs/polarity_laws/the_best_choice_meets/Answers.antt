use Rattle.model_settle.proofs.BestChoices.{best_choice_meets}
use Rattle.model_settle.proofs.polarity_laws.the_best_choice_meets.Goals as goal

pub returns : goal.returns
returns c = λ line script w k early by_scheme is_w kn unbroken.
    best_choice_meets c.history_laws.ensures c.line_laws.ensures
    c.declared_intervals_are_in_order.ensures line script early by_scheme w is_w k kn unbroken
