use Rattle.std.proofs.Common.{◌≡◌, ℕ, List, ap, ◌∙◌, ◌++◌, length, arith}
use Rattle.std.specs.Prelude.{Option, Vec, is_some}
use Rattle.std.specs.declared.alloc.Global.{Global}
use Rattle.judge_races.specs.declared.races.Race.{Race}
use Rattle.judge_races.specs.declared.stretch.Stretch.{Stretch}
use Rattle.net_gates.specs.declared.gate.GateId.{GateId}
use Rattle.call_races.specs.Fault.{operands_of}
use Rattle.call_races.specs.Trips.{longest_place, longest_trip}
use Rattle.call_races.specs.Rows.{each_rows, rows_or_none, trip_rows}
use Rattle.call_races.specs.Races.{conjunctions_at}
use Rattle.call_races.proofs.Terminals.{begins_told, longest_within, rows_told}
use Rattle.call_races.proofs.terminal.push_terminal.Goals as goal

pub rows_at-requires-clause-place : goal.rows_at-requires-clause-place
rows_at-requires-clause-place c =
    let is = c.in_ok-found.ensures c.args.fault.now.scripts.now c.requires.fault.are in
    omega (
      arith,
      c.longest_place-place.ensures,
      longest_within c.deref.result.now,
      ap (λ (l : List (Option Stretch)). length l) c.deref.ensures.value,
      is.trips.count,
      c.requires.fault.are.count,
      c.requires.fault.few,
    )

pub returns : goal.returns
returns c =
    let line = c.args.fault.now.compiled.line.now in
    let group = c.args.fault.now.group.now in
    let scripts = c.args.fault.now.scripts.now in
    let gates = c.args.fault.now.compiled.net.now.gates in
    let found = c.in_ok-found.found in
    let is = c.in_ok-found.ensures scripts c.requires.fault.are in
    let trips : List (Option Stretch) = found.trips.items in
    let place_is : c.longest_place-place.result ≡ longest_place trips =
    c.longest_place-place.ensures ∙ ap longest_place c.deref.ensures.value in
    let trip_is : c.longest_trip-trip.result ≡ longest_trip trips =
    c.longest_trip-trip.ensures ∙ ap longest_trip c.deref-2.ensures.value in
    let same : (l : List (Vec GateId Global)) → l ≡ c.in_ok-all.all.items
    → operands_of gates l ≡ conjunctions_at line c.args.k =
    λ l e. ap (operands_of gates) e ∙ c.in_ok-all.ensures.same in
    record {
      rows = c.in_ok-rows.rows.items;
      is = record {
        found = found;
        begins = c.in_ok-begins.begins.items;
        is = is;
        begins_is = begins_told line scripts c.args.k found (operands_of gates c.deref-3.result.now)
            c.longest_place-place.result c.longest_trip-trip.result c.in_ok-begins.begins.items is
            place_is trip_is (same c.deref-3.result.now c.deref-3.ensures.value) c.in_ok-begins.ensures;
        trips_is = c.is_some.ensures ∙ ap (λ (t : Option Stretch). is_some t) trip_is;
        rows_is = rows_told line group c.args.k trips c.deref-5.result.now
            (operands_of gates c.deref-4.result.now) c.longest_place-place.result
            c.longest_trip-trip.result c.in_ok-begins.begins.items c.in_ok-rows.rows.items place_is
            trip_is (same c.deref-4.result.now c.deref-4.ensures.value) c.in_ok-rows.ensures
            ∙ ap (λ (l : List (Vec Race Global)). rows_or_none line group c.args.k
            (trip_rows line group c.args.k c.in_ok-begins.begins.items (longest_place trips) (longest_trip trips)
            ++ each_rows line group c.args.k (conjunctions_at line c.args.k) l)) c.deref-5.ensures.value;
      };
      text = c.in_ok-extend_from_slice.ensures.items
          ∙ ap (λ (l : List ℕ). c.args.text.now.items ++ l) c.deref-6.ensures.value;
    }
