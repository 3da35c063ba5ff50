use Rattle.std.proofs.Common.{rules}
use Rattle.std.proofs.lemmas.List.Sorted.{IsPartitionPoint-from_clause}
use Rattle.model_timing.specs.Timing.{is_passed}
use Rattle.model_timing.proofs.StepParts.{parted}
use Rattle.model_timing.proofs.places.place_after.Goals as goal

pub returns-clause-parted : goal.returns-clause-parted
returns-clause-parted c =
    IsPartitionPoint-from_clause (is_passed c.args.param c.args.from) _ _
    c.partition_point.ensures.partitioned
    (parted c.args.steps.now c.args.param c.args.from c.requires) (λ a r q k. search rules)
