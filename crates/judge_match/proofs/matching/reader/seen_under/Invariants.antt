use Rattle.std.proofs.Common.{◌≡◌, map, take}
use Rattle.judge_match.specs.{matching.Heads.values_of, matching.Waves.seen_of, matching.Waves.seen_values}
use Rattle.judge_match.proofs.matching.reader.seen_under.Given as goal

abbrev pub invariant-loop-head : goal.invariant-loop-head
invariant-loop-head l =
    map seen_values l.all.items
    ≡ map (seen_of l.line) (map values_of (take l.head-index l.heads))
