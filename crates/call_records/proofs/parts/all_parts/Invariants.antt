use Rattle.std.proofs.Common.{◌≡◌, [], drop, length, map}
use Rattle.call_records.specs.{Parts.parts_from, Read.files_values, Read.record_values}
use Rattle.call_records.proofs.parts.all_parts.Given as goal

abbrev pub invariant-loop-own : goal.invariant-loop-own
invariant-loop-own l = record {
  so_far : parts_from (map files_values l.files) []
      ≡ parts_from (map files_values (drop l.own-index l.files)) (map record_values l.all.items);
  many : length l.all.items ≡ l.own-index;
}
