use Rattle.std.proofs.Common.{leb, ℕ, rules}
use Rattle.std.proofs.lemmas.List.Sorted.{IsPartitionPoint-from_clause}
use Rattle.run_signal.proofs.TrackLaws.{parted, next_found, none_found}
use Rattle.run_signal.proofs.track.next_after.Goals as goal

pub returns-then-i-changes : goal.returns-then-i-changes
returns-then-i-changes c =
    next_found c.args.changes.now c.args.t c.args.bound c.partition_point-i.result
    c.requires.ascending c.requires.inside c.requires.later
    (IsPartitionPoint-from_clause (λ (n : ℕ). leb n c.args.t) _ _
    c.partition_point-i.ensures.partitioned
    (parted c.args.changes.now c.args.t c.requires.ascending)
    (λ a r q k. search rules))
    c.if-i-changes.true

pub returns-else-i-changes : goal.returns-else-i-changes
returns-else-i-changes c =
    none_found c.args.changes.now c.args.t c.args.bound c.partition_point-i.result
    c.requires.ascending c.requires.inside c.requires.later
    (IsPartitionPoint-from_clause (λ (n : ℕ). leb n c.args.t) _ _
    c.partition_point-i.ensures.partitioned
    (parted c.args.changes.now c.args.t c.requires.ascending)
    (λ a r q k. search rules))
    c.if-i-changes.false
