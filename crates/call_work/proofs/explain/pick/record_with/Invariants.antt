use Rattle.std.proofs.Common.{◌≡◌, drop, map}
use Rattle.judge_match.specs.matching.Waves.{seen_values}
use Rattle.call_work.specs.explain.Picked.{record_of}
use Rattle.call_work.proofs.explain.pick.record_with.Given as goal

abbrev pub invariant-loop-i : goal.invariant-loop-i
invariant-loop-i l =
    record_of l.script (map seen_values (drop l.i l.records))
    ≡ record_of l.script (map seen_values l.records)
