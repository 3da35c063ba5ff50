use Rattle.call_pilot.specs.top.PrintedLaws.{accepted_line, accepted_only}
use Rattle.call_pilot.proofs.top.laws.what_certify_prints_is_accepted.Goals as goal

pub returns : goal.returns
returns c = record {
  accepted = λ line scripts d text is fit.
      accepted_line c.what_is_certified_is_accepted.ensures.accepted
      c.what_is_certified_is_accepted.ensures.counts
      c.what_is_certified_is_accepted.ensures.no_fault line scripts d text is fit;
  only = λ line scripts d other text answer is fit.
      accepted_only c.what_is_certified_is_accepted.ensures.accepted
      c.what_is_certified_is_accepted.ensures.counts
      c.what_is_certified_is_accepted.ensures.no_fault line scripts d text is fit other answer;
}
