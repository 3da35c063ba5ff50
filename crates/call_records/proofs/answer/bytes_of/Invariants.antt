use Rattle.std.proofs.Common.{◌≡◌, map, take}
use Rattle.file_records.specs.tracks.Tracks.{bytes_values}
use Rattle.call_records.specs.{Parts.bytes_in, Read.record_values}
use Rattle.call_records.proofs.answer.bytes_of.Given as goal

abbrev pub invariant-loop-own : goal.invariant-loop-own
invariant-loop-own l =
    map bytes_values l.all.items
    ≡ map (λ r. bytes_in (record_values r)) (take l.own-index l.records)
