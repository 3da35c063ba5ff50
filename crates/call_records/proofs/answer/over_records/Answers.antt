use Rattle.std.proofs.Common.{◌≡◌, List, map}
use Rattle.file_records.specs.map.Maps.{map_values}
use Rattle.file_records.specs.tracks.Tracks.{PlacedValues, bytes_values, placed_values, track_values}
use Rattle.call_records.specs.Answers.{placed_of}
use Rattle.call_records.specs.Read.{record_values}
use Rattle.call_records.specs.Request.{asked_values}
use Rattle.call_records.proofs.Answering.{over_all, over_none, placed_are}
use Rattle.call_records.proofs.answer.over_records.Goals as goal

pub returns-in-Ok : goal.returns-in-Ok
returns-in-Ok c =
    let line = c.args.line.now in
    let m = map_values c.args.map.now in
    let records = c.args.records.now in
    let placed : List PlacedValues = map placed_values c.in_ok-placed.placed.items in
    let is : placed ≡ placed_of line m (map record_values records) =
    placed_are line m records placed (map bytes_values c.in_ok-bytes.bytes.items) c.in_ok-bytes.ensures
    (rw (c.as_slice.ensures.value, c.as_slice-2.ensures.value) at c.in_ok-placed.ensures) in
    over_all (asked_values c.args.asked) line m (map record_values records) placed
    (map track_values c.in-Ok.tracks.items) c.text_over.result is
    (rw c.as_slice-3.ensures.value at c.in-Ok.ensures)
    (rw (c.as_slice-in-Ok.ensures.value, c.as_slice-in-Ok-2.ensures.value) at c.text_over.ensures)

pub returns-in-Err-Fault : goal.returns-in-Err-Fault
returns-in-Err-Fault c =
    let line = c.args.line.now in
    let m = map_values c.args.map.now in
    let records = c.args.records.now in
    let placed : List PlacedValues = map placed_values c.in_ok-placed.placed.items in
    let is : placed ≡ placed_of line m (map record_values records) =
    placed_are line m records placed (map bytes_values c.in_ok-bytes.bytes.items) c.in_ok-bytes.ensures
    (rw (c.as_slice.ensures.value, c.as_slice-2.ensures.value) at c.in_ok-placed.ensures) in
    over_none (asked_values c.args.asked) line m (map record_values records) placed c.in-Err-Fault.fault.place
    c.in-Err-Fault.fault.why c.fault_halt.result is
    (rw (c.as_slice-3.ensures.value, c.in-Err-Fault.field-0-is) at c.in-Err-Fault.ensures)
    (rw c.as_slice-in-Err-Fault.ensures.value at c.fault_halt.ensures)
