use Rattle.std.proofs.Common.{◌≡◌, ◌++◌, map, take}
use Rattle.call_refused.specs.told.Told.{within_line}
use Rattle.call_refused.proofs.told.one_line.push_within.Given as goal

abbrev pub invariant-loop-byte : goal.invariant-loop-byte
invariant-loop-byte l =
    l.text.items ≡ l.initial.text.items ++ map within_line (take l.byte-index l.bytes)
