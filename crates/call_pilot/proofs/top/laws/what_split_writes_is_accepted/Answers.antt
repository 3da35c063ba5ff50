use Rattle.call_pilot.proofs.top_lemmas.PrintedTrees.{accepted_only, accepted_trees}
use Rattle.call_pilot.proofs.top.laws.what_split_writes_is_accepted.Goals as goal

pub returns : goal.returns
returns c = record {
  accepted = λ line scripts n d text is few fit.
      accepted_trees c.what_is_searched_is_accepted.ensures.accepted
      c.what_is_searched_is_accepted.ensures.counts
      c.what_is_searched_is_accepted.ensures.no_fault line scripts n d text is few fit;
  only = λ line scripts n d other text answer is few fit.
      accepted_only c.what_is_searched_is_accepted.ensures.accepted
      c.what_is_searched_is_accepted.ensures.counts
      c.what_is_searched_is_accepted.ensures.no_fault line scripts n d text is few fit other
      answer;
}
