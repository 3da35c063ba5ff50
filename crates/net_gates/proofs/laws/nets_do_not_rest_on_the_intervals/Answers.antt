use Rattle.net_gates.proofs.SameNets.{net_same}
use Rattle.net_gates.proofs.laws.nets_do_not_rest_on_the_intervals.Goals as goal

pub returns : goal.returns
returns c line other net same is =
    net_same c.counts_do_not_rest_on_the_intervals.ensures
    c.trees_do_not_rest_on_the_intervals.ensures line other same net is
