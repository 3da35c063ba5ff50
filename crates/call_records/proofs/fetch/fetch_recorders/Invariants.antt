use Rattle.std.proofs.Common.{◌≡◌, [], ℕ, List, Result, drop, length, map}
use Rattle.file_records.specs.map.Recorders.{recorder_values}
use Rattle.call_records.specs.Course.{Course, recorders_course}
use Rattle.call_records.specs.Parts.{RecorderFiles}
use Rattle.call_records.specs.{Files.Runs, Read.files_values}
use Rattle.call_records.specs.declared.halt.Halt.{Halt}
use Rattle.call_records.proofs.fetch.fetch_recorders.Given as goal

abbrev pub invariant-loop-recorder : goal.invariant-loop-recorder
invariant-loop-recorder g l = record {
  held : g.S.Store.held l.store ≡ g.S.Store.held l.initial.store;
  many : length l.files.items ≡ l.recorder-index;
  course : (next : List RecorderFiles → Course) (now : List ℕ → ℕ) (r : Result (List ℕ) Halt)
      → Runs (g.S.Store.held l.initial.store) (g.S.Store.faults l.store) now
      (recorders_course l.map_name (map recorder_values (drop l.recorder-index l.recorders))
      (map files_values l.files.items) next) r
      → Runs (g.S.Store.held l.initial.store) (g.S.Store.faults l.initial.store) now
      (recorders_course l.map_name (map recorder_values l.recorders) [] next) r;
}
