use Rattle.std.proofs.lemmas.List.{get_or-replicate}
use Rattle.run_signal.proofs.VectorLaws.{fresh_lane, fresh_bounded}
use Rattle.run_signal.proofs.timed_lanes.LaneCells.new.Goals as goal

pub invariant_of-result : goal.invariant_of-result
invariant_of-result c = λ lane inside. fresh_bounded _ _ _ _ _ _
    (c.ticks_of.ensures.lanes lane inside) (c.ticks_of-2.ensures.lanes lane inside)
    (get_or-replicate 64 lane 0 0 inside) (get_or-replicate 64 lane 0 0 inside)
    (c.ticks_of.ensures.limited lane inside) (c.ticks_of-2.ensures.limited lane inside)

pub returns : goal.returns
returns c = λ lane inside. fresh_lane _ _ _ _ _ _
    (c.ticks_of.ensures.lanes lane inside) (c.ticks_of-2.ensures.lanes lane inside)
    (get_or-replicate 64 lane 0 0 inside) (get_or-replicate 64 lane 0 0 inside)
