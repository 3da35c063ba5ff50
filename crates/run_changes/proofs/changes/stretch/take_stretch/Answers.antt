use Rattle.std.proofs.Common.{◌≡◌, ℕ, ◌+◌, ◌-◌, ◌<◌, ◌≤◌, Some, length, sym, ◌∙◌, ap, arith}
use Rattle.std.proofs.Common.{subst, ⊎_elim}
use Rattle.std.proofs.lemmas.Bool.{cases_lt}
use Rattle.std.proofs.lemmas.Option.{slice_get_within}
use Rattle.std.specs.Prelude.{slice_get}
use Rattle.model_line.specs.Parameters.{terminal_count, channel_count}
use Rattle.model_logic.specs.Choice.{pair_world_of}
use Rattle.net_gates.specs.NetOf.{AreGatesOf, id_at, key_of}
use Rattle.net_gates.specs.{NetLaws.hears_channel, Readers.Hears}
use Rattle.net_gates.specs.declared.gate.Gate.{Gate}
use Rattle.run_step.specs.Inputs.{AreDelaysFrom, AreSet, AreSoonest, CanReceive}
use Rattle.run_changes.specs.{changes.Lags.IsGivenAt, changes.ShownBy.shown_of}
use Rattle.run_step.specs.{Moments.CanHear, declared.moment.Moment.Moment}
use Rattle.run_step.specs.{Lanes.LanePairs, Lasts.Lasts, Quiet.Keeps}
use Rattle.model_history.specs.ListLaws.{exists_at}
use Rattle.run_step.specs.LaneBox.{lane_box}
use Rattle.run_step.specs.Lanes.{line_lane}
use Rattle.run_changes.specs.changes.Tracks.{trips_of}
use Rattle.run_step.specs.Ticks.{AreSent, KeysSent, ValuesAgree}
use Rattle.run_step.specs.GivenLaws.{can_receive, delays_from, soonest_now, stand_later}
use Rattle.run_changes.proofs.changes_lemmas.HearLaws.{hears_no}
use Rattle.run_step.specs.ShownByLaws.{filter_shows}
use Rattle.run_step.specs.GatePairLaws.{gate_pairs-kind}
use Rattle.run_changes.proofs.changes_lemmas.WaitLaws.{all_wait}
use Rattle.run_changes.proofs.changes_lemmas.LagLaws.{lasts_as, lasts_fewer, lasts_one}
use Rattle.run_changes.proofs.changes_lemmas.StretchLaws.{held_values, heard_keeps, key_is}
use Rattle.run_changes.proofs.changes_lemmas.StretchLaws.{stretch_keeps}
use Rattle.run_changes.proofs.changes.stretch.take_stretch.Goals as goal

pub trace-requires-clause-can : goal.trace-requires-clause-can
trace-requires-clause-can g c =
    let t = c.args.t in
    let line = c.args.run.now.compiled.now.line.now in
    let net = c.args.run.now.compiled.now.net.now in
    let of_line = c.args.run.now.compiled.now.of_line in
    let delays = c.renew_delays.new.delays.list.items in
    record {
      laws = of_line.laws;
      named = of_line.named;
      shown_each = c.requires.kept.shown;
      hear = record {
        tick = c.requires.tick;
        delays = subst (CanReceive g.V.Signal.signal line)
            (sym c.as_slice.ensures.value)
            (can_receive g.V.Signal.signal c.args.run.now
            delays t c.renew_delays.ensures.delays c.renew_delays.ensures.stand c.renew_delays.ensures.set
            c.requires.tick c.requires.can.delayed);
        sent = subst (λ l. AreSent (terminal_count line) line.horizon t l)
            (sym c.as_slice-2.ensures.value)
            (subst (λ (m : ℕ). AreSent m line.horizon t c.args.kept.now.keys.items)
            of_line.terminals c.requires.kept.keys);
      };
      set = subst (AreSet t) (sym c.as_slice.ensures.value) c.renew_delays.ensures.set;
    }

pub hear-requires-clause-column : goal.hear-requires-clause-column
hear-requires-clause-column g c =
    ap length c.as_slice-3.ensures.value ∙ c.trace.ensures.gates.column

pub hear-requires-clause-moment : goal.hear-requires-clause-moment
hear-requires-clause-moment g c = record {
  tick = c.requires.tick;
  delays = subst (CanReceive g.V.Signal.signal c.args.run.now.compiled.now.line.now)
      (sym c.as_slice.ensures.value)
      (can_receive g.V.Signal.signal c.args.run.now
      c.renew_delays.new.delays.list.items c.args.t c.renew_delays.ensures.delays c.renew_delays.ensures.stand
      c.renew_delays.ensures.set c.requires.tick c.requires.can.delayed);
  sent = subst (λ l. AreSent (terminal_count c.args.run.now.compiled.now.line.now)
      c.args.run.now.compiled.now.line.now.horizon c.args.t l)
      (sym c.as_slice-2.ensures.value)
      (subst (λ (m : ℕ). AreSent m c.args.run.now.compiled.now.line.now.horizon c.args.t
      c.args.kept.now.keys.items)
      c.args.run.now.compiled.now.of_line.terminals c.requires.kept.keys);
}

pub hear-requires-clause-soonest : goal.hear-requires-clause-soonest
hear-requires-clause-soonest g c =
    subst (AreSoonest g.V.Signal.signal) (sym c.as_slice.ensures.value)
    (soonest_now g.V.Signal.signal c.args.run.now
    c.renew_delays.new.delays.list.items c.args.t c.renew_delays.ensures.stand c.renew_delays.ensures.set)

pub quiet_ticks-stays-requires-clause-tick : goal.quiet_ticks-stays-requires-clause-tick
quiet_ticks-stays-requires-clause-tick g c =
    omega (
      arith,
      c.hear.ensures.horizon,
      c.trace.ensures.horizon,
      c.requires.kept.horizon,
      c.requires.tick,
    )

pub quiet_ticks-stays-requires-clause-room : goal.quiet_ticks-stays-requires-clause-room
quiet_ticks-stays-requires-clause-room g c = c.hear.ensures.marks.room

pub send_all-requires-clause-gates : goal.send_all-requires-clause-gates
send_all-requires-clause-gates g c =
    subst (λ ids. AreGatesOf ids (length c.as_slice-4.result.now)) (sym c.key_gates.ensures)
    (subst (AreGatesOf c.args.run.now.compiled.now.net.now.keys)
    (sym (ap length c.as_slice-4.ensures.value ∙ c.trace.ensures.gates.column))
    c.args.run.now.compiled.now.of_line.laws.keys)

pub send_all-requires-clause-sent : goal.send_all-requires-clause-sent
send_all-requires-clause-sent g c =
    subst (λ ids. AreSent (length ids) c.args.run.now.compiled.now.line.now.horizon c.args.t
    c.args.kept.now.keys.items)
    (sym c.key_gates.ensures) c.requires.kept.keys

pub send_all-requires-clause-room : goal.send_all-requires-clause-room
send_all-requires-clause-room g c =
    omega (
      arith,
      c.quiet_ticks-stays.ensures.fits,
      c.hear.ensures.horizon,
      c.trace.ensures.horizon,
      c.requires.kept.horizon,
    )

pub send_all-requires-2-clause-gates : goal.send_all-requires-2-clause-gates
send_all-requires-2-clause-gates g c =
    subst (λ ids. AreGatesOf ids (length c.as_slice-5.result.now)) (sym c.trip_gates.ensures)
    (subst (AreGatesOf c.args.run.now.compiled.now.net.now.trips)
    (sym (ap length c.as_slice-5.ensures.value ∙ c.trace.ensures.gates.column))
    c.args.run.now.compiled.now.of_line.laws.trips)

pub send_all-requires-2-clause-sent : goal.send_all-requires-2-clause-sent
send_all-requires-2-clause-sent g c =
    subst (λ ids. AreSent (length ids) c.args.run.now.compiled.now.line.now.horizon c.args.t
    c.args.kept.now.trips.items)
    (sym c.trip_gates.ensures) c.requires.kept.trips

pub send_all-requires-2-clause-room : goal.send_all-requires-2-clause-room
send_all-requires-2-clause-room g c =
    omega (
      arith,
      c.quiet_ticks-stays.ensures.fits,
      c.hear.ensures.horizon,
      c.trace.ensures.horizon,
      c.requires.kept.horizon,
    )

pub returns-clause-fits : goal.returns-clause-fits
returns-clause-fits g c =
    omega (
      arith,
      c.quiet_ticks-stays.ensures.fits,
      c.hear.ensures.horizon,
      c.trace.ensures.horizon,
      c.requires.kept.horizon,
    )

pub returns-clause-kept : goal.returns-clause-kept
returns-clause-kept g c =
    let t = c.args.t in
    let h = c.args.run.now.compiled.now.line.now.horizon in
    let net = c.args.run.now.compiled.now.net.now in
    let n = c.quiet_ticks-stays.result in
    let at = c.trace.ensures.gates in
    let some : 1 ≤ n = c.quiet_ticks-stays.ensures.some in
    record {
      gates = record {
        cells = at.cells;
        sinces = at.sinces;
        dues = c.hear.ensures.dues;
        column = at.column;
        marks = c.quiet_ticks-stays.ensures.marks c.hear.new.dues.items c.hear.ensures.marks;
        fresh = λ first. absurd (omega (arith, first, some));
      };
      reached = c.quiet_ticks-stays.ensures.reached;
      horizon = c.quiet_ticks-stays.ensures.horizon ∙ c.hear.ensures.horizon
          ∙ c.trace.ensures.horizon ∙ c.requires.kept.horizon;
      shown = c.requires.kept.shown;
      delays = c.renew_delays.ensures.delays;
      stand = stand_later g.V.Signal.signal c.args.run.now
          c.renew_delays.new.delays.list.items t (t + n) (omega arith) c.renew_delays.ensures.stand;
      until = c.renew_delays.ensures.until;
      keys = subst (λ (m : ℕ). AreSent m h (t + n) c.send_all.new.tracks.items)
          (ap length c.key_gates.ensures) c.send_all.ensures.count;
      trips = subst (λ (m : ℕ). AreSent m h (t + n) c.send_all-2.new.tracks.items)
          (ap length c.trip_gates.ensures) c.send_all-2.ensures.count;
    }

pub returns-clause-stands : goal.returns-clause-stands
unfolding pair_world_of lane_box
returns-clause-stands g c = λ script before.
    let t = c.args.t in
    let line = c.args.run.now.compiled.now.line.now in
    let run = c.args.run.now in
    let net = c.args.run.now.compiled.now.net.now in
    let of_line = c.args.run.now.compiled.now.of_line in
    let ends = g.V.Signal.signal.ends in
    let rails = g.V.Signal.signal.rails in
    let signal = g.V.Signal.signal in
    let n = c.quiet_ticks-stays.result in
    let old = c.args.kept.now in
    let delays = c.renew_delays.new.delays.list.items in
    let traced = c.trace.new.gates in
    let column = traced.column.items in
    let dues = c.hear.new.dues.items in
    let moment : Moment _ _ _ = record {
      line = c.args.run.now.compiled.now.line;
      delays = c.as_slice.result;
      sent = c.as_slice-2.result;
      t = t;
    } in
    let p : ℕ → LanePairs = λ l. line_lane ends run script l in
    let given : (l : ℕ) → l < signal.lanes
    → IsGivenAt g.V.Signal.signal l (p l) net.gates old.shown moment =
    λ l il. record {
      shows = λ i h ha. filter_shows ends run script l (shown_of old.shown i) h
          (before.shown i h ha);
      delays = subst (λ x. AreDelaysFrom ends l x (p l).world t) (sym c.as_slice.ensures.value)
          (delays_from signal run delays t c.renew_delays.ensures.delays
          c.renew_delays.ensures.stand c.renew_delays.ensures.set l script);
      sent = subst (KeysSent rails l (p l).keys t) (sym c.as_slice-2.ensures.value)
          (before.tracked l il).keys_kept;
      told = λ r i h at. gate_pairs-kind c.gates_stand_for_their_trees.ensures.kinds (p l).world
          (p l).keys net.gates i h r of_line.laws.gates at;
    } in
    let can : CanHear signal moment = record {
      tick = c.requires.tick;
      delays = subst (CanReceive signal line) (sym c.as_slice.ensures.value)
          (can_receive signal run delays t c.renew_delays.ensures.delays
          c.renew_delays.ensures.stand c.renew_delays.ensures.set c.requires.tick c.requires.can.delayed);
      sent = subst (λ l. AreSent (terminal_count line) line.horizon t l)
          (sym c.as_slice-2.ensures.value)
          (subst (λ (m : ℕ). AreSent m line.horizon t old.keys.items) of_line.terminals
          c.requires.kept.keys);
    } in
    let soonest : AreSoonest signal c.as_slice.result.now =
    subst (AreSoonest signal) (sym c.as_slice.ensures.value)
    (soonest_now signal run delays t c.renew_delays.ensures.stand
    c.renew_delays.ensures.set) in
    let set : AreSet t c.as_slice.result.now =
    subst (AreSet t) (sym c.as_slice.ensures.value) c.renew_delays.ensures.set in
    let fits : t + n ≤ line.horizon =
    omega (
      arith,
      c.quiet_ticks-stays.ensures.fits,
      c.hear.ensures.horizon,
      c.trace.ensures.horizon,
      c.requires.kept.horizon,
    ) in
    let some : 1 ≤ n = c.quiet_ticks-stays.ensures.some in
    record {
      shown = before.shown;
      tracked = λ lane inside.
          let was = before.tracked lane inside in
          let d = c.requires.can.delayed lane inside in
          let agree : ValuesAgree rails lane (p lane).pairs t column =
          c.trace.ensures.answers lane (p lane) inside (given lane inside) was.wait in
          let is : (k r : ℕ) → k < length net.keys → r < line.horizon
          → (p lane).keys k r ≡ (p lane).pairs (key_of net k) r =
          λ k r kn lt. key_is c.line_laws.ensures c.gates_stand_for_their_trees.ensures
          c.elements_stay_in_a_stretch.ensures ends run script lane d k r kn
          lt in
          let traced_lasts : (i : ℕ) (h : Gate) (due : ℕ) → slice_get net.gates i ≡ Some h
          → slice_get traced.dues.items i ≡ Some due → Lasts (p lane) (t - 1) t (due - t) h =
          λ i h due ha da. c.trace.ensures.lasts p
          (λ l il. (given l il, (before.tracked l il).wait)) lane i h due inside ha da in
          let named : (i : ℕ) (h : Gate) → slice_get net.gates i ≡ Some h → (x : ℕ) → Hears x h
          → x < channel_count line =
          λ i h ha x hears. hears_channel line x h (of_line.named.each i h (omega arith) ha) hears in
          let lasts : (i : ℕ) (h : Gate) (due : ℕ) → slice_get net.gates i ≡ Some h
          → slice_get dues i ≡ Some due → Lasts (p lane) t t (due - t) h =
          λ i h due ha da.
          let within : i < length net.gates = slice_get_within net.gates i h ha in
          let (first, fa) = exists_at traced.dues.items i
          (omega (arith, within, c.trace.ensures.gates.dues)) in
          let less : due ≤ first = c.hear.ensures.hastened i due da first fa in
          lasts_as (p lane) (t - 1) t t (due - t) h
          (hears_no c.history_laws.ensures signal net c.as_slice-3.result.now
          c.as_slice.result.now c.as_slice-2.result.now t (terminal_count line) line.horizon
          (channel_count line) dues can.delays.count
          can.sent of_line.terminals
          can.delays.from
          (λ k kn. subst (λ (m : ℕ). key_of net k < m)
          (sym (ap length c.as_slice-3.ensures.value ∙ c.trace.ensures.gates.column))
          (of_line.laws.keys k kn))
          soonest set
          can.delays.later c.hear.ensures.heard lane inside (p lane)
          (given lane inside).delays (given lane inside).sent
          (subst (ValuesAgree rails lane (p lane).pairs t) (sym c.as_slice-3.ensures.value) agree)
          (λ k kn. is k t kn c.requires.tick) i due h ha da (named i h ha))
          (lasts_fewer (p lane) (t - 1) t (due - t) (first - t) h (omega (arith, less))
          (traced_lasts i h first ha fa)) in
          let quiet : (i : ℕ) (h : Gate) → slice_get net.gates i ≡ Some h → Lasts (p lane) t t n h =
          λ i h ha.
          let within : i < length net.gates = slice_get_within net.gates i h ha in
          let (due, da) = exists_at dues i (omega (arith, within, c.hear.ensures.dues)) in
          ⊎_elim
          (λ more. let less : n ≤ due - t =
          c.quiet_ticks-stays.ensures.later more dues c.hear.ensures.marks i due da in
          lasts_fewer (p lane) t t n (due - t) h less (lasts i h due ha da))
          (λ few. let this : 1 ≡ n = omega (arith, few, some) in
          subst (λ (m : ℕ). Lasts (p lane) t t m h) this
          (lasts_one (p lane) t t h (λ x hears. d x t (named i h ha x hears) c.requires.tick)))
          (cases_lt 1 n) in
          let keeps : (i : ℕ) → i < length net.gates → Keeps ((p lane).pairs i) t n =
          stretch_keeps c.line_laws.ensures c.gates_stand_for_their_trees.ensures
          c.elements_stay_in_a_stretch.ensures ends run script lane d t n
          fits quiet in
          record {
            keys_kept = c.send_all.ensures.keys lane (p lane).keys inside
                (λ k x kn at r low high.
                let kn' : k < length net.keys =
                subst (λ ids. k < length ids) c.key_gates.ensures kn in
                let at' : slice_get column (id_at net.keys k) ≡ Some x =
                subst (λ l. slice_get l (id_at net.keys k) ≡ Some x) c.as_slice-4.ensures.value
                (subst (λ ids. slice_get c.as_slice-4.result.now (id_at ids k) ≡ Some x)
                c.key_gates.ensures at) in
                is k r kn' (omega (arith, high, fits))
                ∙ held_values rails lane (p lane).pairs t n (length net.gates) column net.keys
                of_line.laws.keys agree keeps k x kn' at' r low high)
                was.keys_kept;
            trips_kept = c.send_all-2.ensures.keys lane (trips_of net (p lane).pairs) inside
                (λ k x kn at r low high.
                let kn' : k < length net.trips =
                subst (λ ids. k < length ids) c.trip_gates.ensures kn in
                let at' : slice_get column (id_at net.trips k) ≡ Some x =
                subst (λ l. slice_get l (id_at net.trips k) ≡ Some x) c.as_slice-5.ensures.value
                (subst (λ ids. slice_get c.as_slice-5.result.now (id_at ids k) ≡ Some x)
                c.trip_gates.ensures at) in
                held_values rails lane (p lane).pairs t n (length net.gates) column net.trips
                of_line.laws.trips agree keeps k x kn' at' r low high)
                was.trips_kept;
            wait = all_wait c.elements_stay_in_a_stretch.ensures c.recorded_ticks_suffice.ensures
                signal g.V.Timed.stands_for lane (p lane) t n net.gates
                (record c.trace.new.gates {
                  dues = c.hear.new.dues;
                  marks = c.quiet_ticks-stays.new.marks;
                }) some
                of_line.laws.gates keeps
                (heard_keeps c.line_laws.ensures c.gates_stand_for_their_trees.ensures
                c.elements_stay_in_a_stretch.ensures ends run script lane d
                t n fits keeps)
                agree (c.trace.ensures.lags lane (p lane) inside (given lane inside) was.wait) lasts;
          };
    }

pub renew_delays-requires-clause-can : goal.renew_delays-requires-clause-can
renew_delays-requires-clause-can g c = c.requires.can

pub renew_delays-requires-clause-early : goal.renew_delays-requires-clause-early
renew_delays-requires-clause-early g c =
    omega (arith, c.requires.tick, c.args.run.now.compiled.now.line.now.horizon_in_range.1)

pub renew_delays-requires-clause-delays : goal.renew_delays-requires-clause-delays
renew_delays-requires-clause-delays g c = c.requires.kept.delays

pub renew_delays-requires-clause-stand : goal.renew_delays-requires-clause-stand
renew_delays-requires-clause-stand g c = c.requires.kept.stand

pub renew_delays-requires-clause-until : goal.renew_delays-requires-clause-until
renew_delays-requires-clause-until g c = c.requires.kept.until

pub trace-requires-clause-gates : goal.trace-requires-clause-gates
trace-requires-clause-gates g c = c.requires.kept.gates

pub trace-requires-clause-horizon : goal.trace-requires-clause-horizon
trace-requires-clause-horizon g c = c.requires.kept.horizon

pub trace-requires-clause-reached : goal.trace-requires-clause-reached
trace-requires-clause-reached g c = c.requires.kept.reached

pub hear-requires-clause-laws : goal.hear-requires-clause-laws
hear-requires-clause-laws g c = c.args.run.now.compiled.now.of_line.laws

pub hear-requires-clause-terminals : goal.hear-requires-clause-terminals
hear-requires-clause-terminals g c = c.args.run.now.compiled.now.of_line.terminals

pub hear-requires-clause-dues : goal.hear-requires-clause-dues
hear-requires-clause-dues g c = c.trace.ensures.gates.dues

pub hear-requires-clause-marks : goal.hear-requires-clause-marks
hear-requires-clause-marks g c = c.trace.ensures.gates.marks

pub hear-requires-clause-next : goal.hear-requires-clause-next
hear-requires-clause-next g c = c.trace.ensures.next

pub quiet_ticks-stays-requires-clause-next : goal.quiet_ticks-stays-requires-clause-next
quiet_ticks-stays-requires-clause-next g c = c.hear.ensures.next

pub send_all-requires-clause-some : goal.send_all-requires-clause-some
send_all-requires-clause-some g c = c.quiet_ticks-stays.ensures.some

pub send_all-requires-2-clause-some : goal.send_all-requires-2-clause-some
send_all-requires-2-clause-some g c = c.quiet_ticks-stays.ensures.some

pub returns-clause-some : goal.returns-clause-some
returns-clause-some g c = c.quiet_ticks-stays.ensures.some
