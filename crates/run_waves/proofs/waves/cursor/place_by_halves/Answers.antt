use Rattle.std.proofs.Common.{leb, rules}
use Rattle.std.proofs.lemmas.List.Sorted.{IsPartitionPoint-from_clause}
use Rattle.run_waves.specs.declared.waves.runs.Stretch.{Stretch}
use Rattle.run_waves.proofs.waves_lemmas.RunLaws.{parted, run_by_halves}
use Rattle.run_waves.proofs.waves.cursor.place_by_halves.Goals as goal

pub returns : goal.returns
returns c =
    run_by_halves c.args.stretches.now c.args.t c.partition_point.result c.requires.apart
    c.requires.goes_on c.partition_point.ensures.bound
    (IsPartitionPoint-from_clause (λ (s : Stretch). leb s.end c.args.t) _ _
    c.partition_point.ensures.partitioned
    (parted c.args.stretches.now c.args.t c.requires.apart) (λ a r q k. search rules))
