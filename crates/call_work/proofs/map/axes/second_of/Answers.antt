use Rattle.std.proofs.Common.{refl, Some}
use Rattle.call_work.proofs.map.axes.second_of.Goals as goal

pub returns-in_ok-axis_of-in-Some-clause-is : goal.returns-in_ok-axis_of-in-Some-clause-is
returns-in_ok-axis_of-in-Some-clause-is c =
    let (moved, said, is) = c.in_ok-axis_of-in-Some.ensures.is in
    (Some moved, rw c.in-Some.is (rw said refl), is)
