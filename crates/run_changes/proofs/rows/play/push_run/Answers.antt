use Rattle.std.proofs.Common.{◌≡◌, ◌<◌, ◌≤◌, ◌+◌, ◌++◌, ℕ, List, Some, sym, ◌∙◌, ap, arith, subst}
use Rattle.std.proofs.lemmas.List.{append-nil}
use Rattle.std.specs.Prelude.{slice_get}
use Rattle.model_history.specs.EachLaws.{list_more}
use Rattle.model_line.specs.Parameters.{terminal_count}
use Rattle.run_changes.specs.rows.PlayRows.{tick_rows}
use Rattle.run_signal.specs.SentKeys.{SentKeys}
use Rattle.run_signal.specs.declared.level.Level.{Level}
use Rattle.run_changes.specs.declared.rows.standing.Pair.{Pair}
use Rattle.run_changes.specs.{rows.StandingLaws.AllStand, rows.StandingLaws.all_stand_at}
use Rattle.run_changes.specs.changes.PlayedTracks.{played}
use Rattle.run_changes.proofs.rows_lemmas.QuietRows.{no_rows, no_more_texts}
use Rattle.run_changes.proofs.rows.play.push_run.Goals as goal

-- the ticks until which they stand are later
stand_later : {n t : ℕ} {keys trips : List (SentKeys Level)} {pairs shown : List Pair}
    → shown ≡ pairs → AllStand n (t + 1) keys trips pairs → (k : ℕ) (p : Pair)
    → slice_get shown k ≡ Some p → (t < p.key.until) × (t < p.trip.until)
stand_later same stand k p at =
    let both = stand.each k p (ap (λ (l : List Pair). slice_get l k) (sym same) ∙ at) in
    let key = both.key.later in
    let trip = both.trip.later in
    (omega (arith, key), omega (arith, trip))

-- a tick before the next change is before that of each
before : (end r : ℕ) (pairs : List Pair) → r < end
    → ((k : ℕ) (p : Pair) → slice_get pairs k ≡ Some p
    → (end ≤ p.key.until) × (end ≤ p.trip.until))
    → (k : ℕ) (p : Pair) → slice_get pairs k ≡ Some p → (r < p.key.until) × (r < p.trip.until)
before end r pairs high least k p at =
    let key = (least k p at).0 in
    let trip = (least k p at).1 in
    (omega (arith, high, key), omega (arith, high, trip))

pub changes-init : goal.changes-init
changes-init c = record {
  inside = omega arith;
  rows = sym (append-nil c.args.text.now.items);
  stand = subst (λ (n : ℕ). AllStand n 0 c.args.tracks.now.keys.items c.args.tracks.now.trips.items
      c.in_ok-pairs.pairs.items)
      (omega (arith, c.len.ensures))
      (c.in_ok-pairs.ensures c.args.tracks.now.keys.items c.args.tracks.now.trips.items);
}

pub changes-smaller : goal.changes-smaller
changes-smaller c =
    let later : c.changes.t < c.next_change-t.result =
    c.next_change-t.ensures.later c.changes.t c.changes-test.true
    (stand_later c.deref.ensures.value c.in_ok-push_tick.ensures.stand) in
    omega (arith, later, c.next_change-t.ensures.limited)

pub changes-preserved : goal.changes-preserved
changes-preserved c =
    let line = c.args.line.now in
    let keys = c.args.tracks.now.keys.items in
    let trips = c.args.tracks.now.trips.items in
    let t = c.changes.t in
    let end = c.next_change-t.result in
    let pairs = c.push_tick.new.pairs.items in
    let stand : AllStand (terminal_count line) (t + 1) keys trips pairs =
    c.in_ok-push_tick.ensures.stand in
    let later : t < end =
    c.next_change-t.ensures.later t c.changes-test.true (stand_later c.deref.ensures.value stand) in
    let least : (k : ℕ) (p : Pair) → slice_get pairs k ≡ Some p
    → (end ≤ p.key.until) × (end ≤ p.trip.until) =
    λ k p at. c.next_change-t.ensures.least k p
    (ap (λ (l : List Pair). slice_get l k) c.deref.ensures.value ∙ at) in
    let rows : ℕ → List ℕ =
    tick_rows c.args.names.now.timing c.args.names.now.script line (played keys trips) in
    record {
      inside = c.next_change-t.ensures.limited;
      rows = list_more c.args.text.now.items c.changes.text.items c.push_tick.new.text.items rows t
          c.changes.invariant.rows c.in_ok-push_tick.ensures.rows
          ∙ ap (λ (l : List ℕ). c.args.text.now.items ++ l)
          (no_more_texts (t + 1) end rows (omega (arith, later))
          (λ r low high.
          no_rows c.args.names.now.timing c.args.names.now.script line keys trips (t + 1) r pairs
          stand (before end r pairs high least) low));
      stand = all_stand_at stand end (omega (arith, later)) least;
    }
