use Rattle.judge_report.proofs.MarginLaws.{held_met}
use Rattle.judge_report.proofs.laws.what_is_held_to_a_number_is_met.Goals as goal

pub returns : goal.returns
returns c line scripts param v s k script fit all at kn choice h within is_h =
    held_met c.laws_below.ensures line scripts param fit v s k script all at kn choice h within is_h
