use Rattle.std.proofs.Common.{map, take}
use Rattle.judge_match.specs.matching.Heads.{values_of}
use Rattle.judge_match.proofs.matching_lemmas.WaveLaws.{heads_are_seen}
use Rattle.judge_match.proofs.matching.reader.seen_under.Goals as goal

pub returns-clause-seen : goal.returns-clause-seen
returns-clause-seen c =
    heads_are_seen c.args.line.now c.loop-head.all.items
    (map values_of (take c.loop-head.head-index c.args.heads.now)) c.loop-head.invariant
