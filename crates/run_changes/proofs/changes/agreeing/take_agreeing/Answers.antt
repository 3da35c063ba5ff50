use Rattle.std.proofs.Common.{◌≡◌, ◌+◌, ◌<◌, ◌≤◌, ℕ, List, length, arith, subst, sym, ◌∙◌}
use Rattle.std.specs.Prelude.{◌↔◌, IsTrue}
use Rattle.run_signal.specs.declared.level.Level.{Level}
use Rattle.run_signal.specs.SentKeys.{SentKeys}
use Rattle.model_line.specs.Parameters.{terminal_count}
use Rattle.model_logic.specs.PairMean.{PairSignals}
use Rattle.run_changes.specs.changes.Agreeing.{AllAgreeIn, LaneAgrees, own_pairs}
use Rattle.run_changes.specs.changes.Tracks.{trips_of}
use Rattle.run_step.specs.Lanes.{line_lane}
use Rattle.run_step.specs.{Lanes.LanePairs, Ticks.AreSent}
use Rattle.run_changes.proofs.changes_lemmas.AgreeLaws.{before_none, before_more, none_left}
use Rattle.run_changes.proofs.changes_lemmas.TrackLaws.{kept_pair}
use Rattle.run_changes.proofs.changes.agreeing.take_agreeing.Goals as goal

pub loop-t-init : goal.loop-t-init
loop-t-init g c = record {
  fits = omega arith;
  kept = c.requires.kept;
  stands = λ script given. given;
  agree = λ script given lane inside.
      let line = c.args.run.now.compiled.now.line.now in
      let p : LanePairs = line_lane g.V.Signal.signal.ends c.args.run.now script lane in
      before_none (terminal_count line) p.keys (trips_of c.args.run.now.compiled.now.net.now p.pairs)
      c.args.recorded.now.keys.items c.args.recorded.now.trips.items
      (g.V.Signal.signal.rails c.known-lanes.result lane) (c.known-lanes.ensures lane inside);
}

pub agreeing_tracks-keys-requires-clause-tracks : goal.agreeing_tracks-keys-requires-clause-tracks
agreeing_tracks-keys-requires-clause-tracks g c =
    let h = c.args.run.now.compiled.now.line.now.horizon in
    let n : length c.args.run.now.compiled.now.net.now.keys
    ≡ terminal_count c.args.run.now.compiled.now.line.now =
    c.args.run.now.compiled.now.of_line.terminals in
    subst (λ (l : List (SentKeys _)). AreSent (terminal_count c.args.run.now.compiled.now.line.now) h
    (c.loop-t.t + c.take_stretch-stays.result) l) (sym c.as_slice.ensures.value)
    (subst (λ (m : ℕ). AreSent m h (c.loop-t.t + c.take_stretch-stays.result)
    c.take_stretch-stays.new.kept.keys.items) n c.take_stretch-stays.ensures.kept.keys)

pub agreeing_tracks-trips-requires-clause-tracks : goal.agreeing_tracks-trips-requires-clause-tracks
agreeing_tracks-trips-requires-clause-tracks g c =
    let h = c.args.run.now.compiled.now.line.now.horizon in
    let n : length c.args.run.now.compiled.now.net.now.trips
    ≡ terminal_count c.args.run.now.compiled.now.line.now =
    c.args.run.now.compiled.now.of_line.laws.same ∙ c.args.run.now.compiled.now.of_line.terminals in
    subst (λ (l : List (SentKeys _)). AreSent (terminal_count c.args.run.now.compiled.now.line.now) h
    (c.loop-t.t + c.take_stretch-stays.result) l) (sym c.as_slice-in-loop-t-2.ensures.value)
    (subst (λ (m : ℕ). AreSent m h (c.loop-t.t + c.take_stretch-stays.result)
    c.take_stretch-stays.new.kept.trips.items) n c.take_stretch-stays.ensures.kept.trips)

pub loop-t-preserved : goal.loop-t-preserved
loop-t-preserved g c =
    let line = c.args.run.now.compiled.now.line.now in
    let net = c.args.run.now.compiled.now.net.now in
    let rails = g.V.Signal.signal.rails in
    let h = line.horizon in
    let t = c.loop-t.t in
    let end : ℕ = t + c.take_stretch-stays.result in
    let kept = c.take_stretch-stays.new.kept in
    let recorded = c.args.recorded.now in
    let of_line = c.args.run.now.compiled.now.of_line in
    record {
      fits = c.take_stretch-stays.ensures.fits;
      kept = c.take_stretch-stays.ensures.kept;
      stands = λ script given.
          c.take_stretch-stays.ensures.stands script (c.loop-t.invariant.stands script given);
      agree = λ script given lane inside.
          let p : LanePairs = line_lane g.V.Signal.signal.ends c.args.run.now script lane in
          let trip : PairSignals = trips_of net p.pairs in
          let now =
          (c.take_stretch-stays.ensures.stands script (c.loop-t.invariant.stands script given)).tracked
          lane inside in
          before_more (terminal_count line) p.keys trip recorded.keys.items recorded.trips.items
          (own_pairs rails lane kept.keys.items) (own_pairs rails lane kept.trips.items) t end
          (rails c.loop-t.lanes lane) (rails c.agreeing_tracks-keys.result lane)
          (rails c.agreeing_tracks-trips.result lane) (rails c.and.result lane)
          (rails c.and-lanes.result lane) (omega arith) (c.and.ensures lane inside)
          (c.and-lanes.ensures lane inside)
          (λ k r kn lt. kept_pair c.history_laws.ensures rails lane p.keys (length net.keys) h end k r
          kept.keys.items c.take_stretch-stays.ensures.kept.keys now.keys_kept
          (subst (λ (n : ℕ). k < n) (sym of_line.terminals) kn) lt)
          (λ k r kn lt. kept_pair c.history_laws.ensures rails lane trip (length net.trips) h end k r
          kept.trips.items c.take_stretch-stays.ensures.kept.trips now.trips_kept
          (subst (λ (n : ℕ). k < n) (sym (of_line.laws.same ∙ of_line.terminals)) kn) lt)
          (c.loop-t.invariant.agree script given lane inside)
          (subst (λ (l : List (SentKeys Level)). IsTrue (rails c.agreeing_tracks-keys.result lane).must
          ↔ AllAgreeIn (terminal_count line) (own_pairs rails lane kept.keys.items) l t end)
          c.as_slice-in-loop-t.ensures.value
          (subst (λ (l : List (SentKeys _)). IsTrue (rails c.agreeing_tracks-keys.result lane).must
          ↔ AllAgreeIn (terminal_count line) (own_pairs rails lane l) c.as_slice-in-loop-t.result.now t end)
          c.as_slice.ensures.value (c.agreeing_tracks-keys.ensures lane inside)))
          (subst (λ (l : List (SentKeys Level)). IsTrue (rails c.agreeing_tracks-trips.result lane).must
          ↔ AllAgreeIn (terminal_count line) (own_pairs rails lane kept.trips.items) l t end)
          c.as_slice-in-loop-t-3.ensures.value
          (subst (λ (l : List (SentKeys _)). IsTrue (rails c.agreeing_tracks-trips.result lane).must
          ↔ AllAgreeIn (terminal_count line) (own_pairs rails lane l) c.as_slice-in-loop-t-3.result.now t end)
          c.as_slice-in-loop-t-2.ensures.value (c.agreeing_tracks-trips.ensures lane inside)));
    }

pub returns-then-not-some_left : goal.returns-then-not-some_left
returns-then-not-some_left g c = λ script given lane inside.
    let line = c.args.run.now.compiled.now.line.now in
    let p : LanePairs = line_lane g.V.Signal.signal.ends c.args.run.now script lane in
    none_left (terminal_count line) p.keys (trips_of c.args.run.now.compiled.now.net.now p.pairs)
    c.args.recorded.now.keys.items c.args.recorded.now.trips.items c.loop-t.t line.horizon
    (g.V.Signal.signal.rails c.loop-t.lanes lane) c.loop-t.invariant.fits
    (c.some_left.ensures c.if-not-some_left.true lane inside)
    (c.loop-t.invariant.agree script given lane inside)

pub returns : goal.returns
returns g c = λ script given lane inside.
    let line = c.args.run.now.compiled.now.line.now in
    let h = line.horizon in
    let fits : c.loop-t.t ≤ h = c.loop-t.invariant.fits in
    let last : c.loop-t.t ≡ h = omega (arith, fits, c.loop-t-test.false) in
    subst (λ (m : ℕ). IsTrue (g.V.Signal.signal.rails c.loop-t.lanes lane).must
    ↔ LaneAgrees g.V.Signal.signal.ends c.args.run.now script lane
    c.args.recorded.now.keys.items c.args.recorded.now.trips.items m) last
    (c.loop-t.invariant.agree script given lane inside)

pub take_stretch-stays-requires-clause-can : goal.take_stretch-stays-requires-clause-can
take_stretch-stays-requires-clause-can g c = c.requires.can

pub take_stretch-stays-requires-clause-tick : goal.take_stretch-stays-requires-clause-tick
take_stretch-stays-requires-clause-tick g c = c.loop-t-test.true

pub take_stretch-stays-requires-clause-kept : goal.take_stretch-stays-requires-clause-kept
take_stretch-stays-requires-clause-kept g c = c.loop-t.invariant.kept

pub overflow_add-end : goal.overflow_add-end
overflow_add-end g c =
    record {
      fits = omega (
        arith,
        c.take_stretch-stays.ensures.fits,
        c.args.run.now.compiled.now.line.now.horizon_in_range.1,
      );
    }

pub agreeing_tracks-keys-requires-clause-from : goal.agreeing_tracks-keys-requires-clause-from
agreeing_tracks-keys-requires-clause-from g c = omega (arith, c.take_stretch-stays.ensures.some)

pub agreeing_tracks-keys-requires-clause-end : goal.agreeing_tracks-keys-requires-clause-end
agreeing_tracks-keys-requires-clause-end g c = c.take_stretch-stays.ensures.fits

pub agreeing_tracks-keys-requires-clause-recorded : goal.agreeing_tracks-keys-requires-clause-recorded
agreeing_tracks-keys-requires-clause-recorded g c =
    let line = c.args.run.now.compiled.now.line.now in
    subst (λ (l : List (SentKeys Level)). AreSent (terminal_count line) line.horizon line.horizon l)
    (sym c.as_slice-in-loop-t.ensures.value) c.requires.keys

pub agreeing_tracks-trips-requires-clause-from : goal.agreeing_tracks-trips-requires-clause-from
agreeing_tracks-trips-requires-clause-from g c = omega (arith, c.take_stretch-stays.ensures.some)

pub agreeing_tracks-trips-requires-clause-end : goal.agreeing_tracks-trips-requires-clause-end
agreeing_tracks-trips-requires-clause-end g c = c.take_stretch-stays.ensures.fits

pub agreeing_tracks-trips-requires-clause-recorded : goal.agreeing_tracks-trips-requires-clause-recorded
agreeing_tracks-trips-requires-clause-recorded g c =
    let line = c.args.run.now.compiled.now.line.now in
    subst (λ (l : List (SentKeys Level)). AreSent (terminal_count line) line.horizon line.horizon l)
    (sym c.as_slice-in-loop-t-3.ensures.value) c.requires.trips

pub loop-t-smaller : goal.loop-t-smaller
loop-t-smaller g c = omega (arith, c.take_stretch-stays.ensures.some, c.loop-t-test.true)
