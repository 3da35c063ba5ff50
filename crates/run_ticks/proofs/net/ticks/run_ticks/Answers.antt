use Rattle.std.proofs.Common.{◌≡◌, ℕ, suc, ◌<◌, ◌≤◌, ◌+◌, ◌*◌, ◌++◌, refl, sym, ◌∙◌, ap}
use Rattle.std.proofs.Common.{add-one, length, length-append, subst}
use Rattle.std.proofs.Math.Nat.{lt_of_lt_of_le}
use Rattle.std.specs.Prelude.{vec_capacity}
use Rattle.model_line.specs.Parameters.{terminal_count}
use Rattle.model_logic.specs.PairMean.{PairWorld, PairSignals}
use Rattle.model_logic.specs.Choice.{Box, pair_world_of}
use Rattle.net_gates.specs.NetOf.{key_of, AreGatesOf}
use Rattle.run_step.specs.{GatePairs.GateSignals, LaneBox.lane_box, Lanes.LanePairs}
use Rattle.run_step.specs.{Lanes.line_lane, Ticks.IsReady, Ticks.AreTold, Ticks.AreSent}
use Rattle.run_step.specs.{Ticks.KeysSent, Ticks.ValuesAgree, Ticks.ValuesTold}
use Rattle.run_step.specs.Ticks.{LaneStands}
use Rattle.run_step.specs.{Inputs.CanReceive, Inputs.IsWorldAt}
use Rattle.run_step.specs.Shown.{AreShown}
use Rattle.run_step.specs.GivenLaws.{stand_none, stand_later, shown_none, shown_later}
use Rattle.run_step.specs.GivenLaws.{can_receive}
use Rattle.run_step.specs.GivenLaws.{world_at}
use Rattle.run_step.specs.SendLaws.{none_sent, fresh_sent, one_tick_sent}
use Rattle.run_step.specs.ValueLaws.{values_none, values_more}
use Rattle.run_step.specs.{GatePairLaws.gate_pairs-kind, RunLaws.key_pair}
use Rattle.run_ticks.proofs.RoomLaws.{product_fits, terminals_fit, none_so_far, has_room, room_kept}
use Rattle.run_ticks.proofs.RoomLaws.{tick_more, tick_has_room, all_told, fits_once, next_later}
use Rattle.run_ticks.proofs.net.ticks.run_ticks.Goals as goal

pub fresh_tracks-requires : goal.fresh_tracks-requires
fresh_tracks-requires g c = c.args.run.now.compiled.now.line.now.horizon_in_range.1

pub overflow_mul-compiled : goal.overflow_mul-compiled
overflow_mul-compiled g c =
    product_fits c.args.run.now.compiled.now.line.now.horizon c.len-width.result
    c.args.run.now.compiled.now.line.now.horizon_in_range.1 c.len-width.ensures.few

pub overflow_cast-key_gates : goal.overflow_cast-key_gates
overflow_cast-key_gates g c =
    terminals_fit (length c.key_gates.result.now) _ _ (ap length c.key_gates.ensures)
    c.args.run.now.compiled.now.of_line.terminals
    c.args.run.now.compiled.now.line.now.two_or_three.1

pub loop-t-init : goal.loop-t-init
unfolding pair_world_of lane_box
loop-t-init g c =
    let line = c.args.run.now.compiled.now.line.now in
    let net = c.args.run.now.compiled.now.net.now in
    let n = length net.gates in
    let count = length c.key_gates.result.now in
    let all : count ≡ terminal_count line =
    ap length c.key_gates.ensures ∙ c.args.run.now.compiled.now.of_line.terminals in
    let width : c.len-width.result ≡ n = c.len-width.ensures.len in
    let all_ticks : line.horizon * c.len-width.result ≡ line.horizon * n =
    ap (λ (m : ℕ). line.horizon * m) width in
    record {
      count = none_so_far n _ (ap length c.in_ok-values.ensures.items);
      column_room = has_room n c.len-width.result _ c.in_ok-column.ensures.exact width;
      values_room = has_room (line.horizon * n) _ _ c.in_ok-values.ensures.exact all_ticks;
      delays = c.in_ok-inputs.ensures.delays;
      stand = stand_none g.V.Signal.signal c.args.run.now
          c.in_ok-inputs.inputs.delays.items c.in_ok-inputs.ensures.fresh;
      shown = subst (AreShown c.args.script.now.spans.items c.in_ok-inputs.inputs.shown 0)
          (sym c.in_ok-inputs.ensures.over)
          (shown_none c.args.script.now.spans.items c.in_ok-inputs.inputs.shown
          c.in_ok-inputs.ensures.shown);
      cells = c.in_ok-cells.ensures.shape;
      sent = subst (λ (m : ℕ). AreSent m line.horizon 0 c.in_ok-sent.sent.items) all
          (fresh_sent count line.horizon c.in_ok-sent.sent.items c.in_ok-sent.ensures);
      lanes = λ lane inside.
          let p : LanePairs = line_lane g.V.Signal.signal.ends c.args.run.now c.args.script.now lane in
          let u : GateSignals = p.pairs in
          record {
            keys_sent = none_sent g.V.Signal.signal.rails lane count line.horizon p.keys
                c.in_ok-sent.sent.items c.in_ok-sent.ensures;
            cells_stand = c.in_ok-cells.ensures.stands lane p.world u inside (λ x. refl);
            told = subst (ValuesTold g.V.Signal.signal.rails lane u n)
                (sym c.in_ok-values.ensures.items)
                (values_none g.V.Signal.signal.rails lane u n);
          };
    }

pub turn-requires-clause-can : goal.turn-requires-clause-can
turn-requires-clause-can g c = c.requires

pub turn-requires-clause-early : goal.turn-requires-clause-early
turn-requires-clause-early g c =
    lt_of_lt_of_le c.loop-t-test.true c.args.run.now.compiled.now.line.now.horizon_in_range.1

pub turn-requires-clause-delays : goal.turn-requires-clause-delays
turn-requires-clause-delays g c = c.loop-t.invariant.delays

pub turn-requires-clause-stand : goal.turn-requires-clause-stand
turn-requires-clause-stand g c = c.loop-t.invariant.stand

pub walk-requires-clause-room : goal.walk-requires-clause-room
walk-requires-clause-room g c = c.loop-t.invariant.column_room

pub walk-requires-clause-names : goal.walk-requires-clause-names
walk-requires-clause-names g c = c.args.run.now.compiled.now.of_line.named

pub walk-requires-clause-cells : goal.walk-requires-clause-cells
walk-requires-clause-cells g c = c.loop-t.invariant.cells

pub walk-requires-clause-moment : goal.walk-requires-clause-moment
walk-requires-clause-moment g c =
    let line = c.args.run.now.compiled.now.line.now in
    record {
      tick = c.loop-t-test.true;
      delays = subst (CanReceive g.V.Signal.signal line)
          (sym c.as_slice.ensures.value)
          (can_receive g.V.Signal.signal c.args.run.now
          c.turn.new.inputs.delays.items c.loop-t.t c.turn.ensures.delays c.turn.ensures.stand
          c.turn.ensures.set c.loop-t-test.true c.requires.delayed);
      sent = subst (λ l. AreSent (terminal_count line) line.horizon c.loop-t.t l)
          (sym c.as_slice-in-loop-t.ensures.value) c.loop-t.invariant.sent;
    }

pub send_all-requires-clause-gates : goal.send_all-requires-clause-gates
send_all-requires-clause-gates g c =
    let net = c.args.run.now.compiled.now.net.now in
    let wide : length c.as_slice-in-loop-t-2.result.now ≡ length net.gates =
    ap length c.as_slice-in-loop-t-2.ensures.value ∙ c.walk.ensures.count in
    subst (λ ids. AreGatesOf ids (length c.as_slice-in-loop-t-2.result.now))
    (sym c.key_gates-in-loop-t.ensures)
    (subst (λ (n : ℕ). AreGatesOf net.keys n) (sym wide) c.args.run.now.compiled.now.of_line.laws.keys)

pub send_all-requires-clause-room : goal.send_all-requires-clause-room
send_all-requires-clause-room g c =
    fits_once c.loop-t.t c.args.run.now.compiled.now.line.now.horizon c.loop-t-test.true

pub send_all-requires-clause-sent : goal.send_all-requires-clause-sent
send_all-requires-clause-sent g c =
    subst (λ (m : ℕ). AreSent m c.args.run.now.compiled.now.line.now.horizon c.loop-t.t
    c.loop-t.sent.items)
    (sym (ap length c.key_gates-in-loop-t.ensures ∙ c.args.run.now.compiled.now.of_line.terminals))
    c.loop-t.invariant.sent

pub loop-t-preserved : goal.loop-t-preserved
loop-t-preserved g c =
    let t = c.loop-t.t in
    let net = c.args.run.now.compiled.now.net.now in
    let line = c.args.run.now.compiled.now.line.now in
    let script = c.args.script.now in
    let spans = c.args.run.now.spans.now in
    let steps = c.args.run.now.steps.now in
    let inputs = c.turn.new.inputs in
    let ends = g.V.Signal.signal.ends in
    let rails = g.V.Signal.signal.rails in
    let n = length net.gates in
    let next : suc t ≡ t + 1 = sym (add-one t) in
    let values = c.loop-t.values.items in
    let column = c.walk.new.column.items in
    let long : length values ≡ t * n = c.loop-t.invariant.count in
    let wide : length column ≡ n = c.walk.ensures.count in
    let pushed : c.extend_within.new.list.items ≡ values ++ column =
    c.extend_within.ensures.items ∙ ap (λ l. values ++ l) c.as_slice-in-loop-t-3.ensures.value in
    let longer = tick_more t n (length values) (length column) long wide in
    let room : line.horizon * n ≤ vec_capacity c.loop-t.values = c.loop-t.invariant.values_room in
    let more : vec_capacity c.loop-t.values ≤ vec_capacity c.extend_within.new.list =
    c.extend_within.ensures.room in
    record {
      count = ap length pushed ∙ length-append values column ∙ longer;
      column_room = c.walk.ensures.room;
      values_room = room_kept _ _ _ room more;
      delays = c.turn.ensures.delays;
      stand = stand_later g.V.Signal.signal c.args.run.now inputs.delays.items t (t + 1)
          (next_later t) c.turn.ensures.stand;
      shown = shown_later script.spans.items inputs.shown t (t + 1) inputs.until (next_later t)
          (c.turn.ensures.shown script.spans.items c.loop-t.invariant.shown);
      cells = c.walk.ensures.cells;
      sent =
          subst (λ (m : ℕ). AreSent m line.horizon (t + 1) c.send_all.new.tracks.items)
          (ap length c.key_gates-in-loop-t.ensures ∙ c.args.run.now.compiled.now.of_line.terminals)
          c.send_all.ensures.count;
      lanes = λ lane inside.
          let p : LanePairs = line_lane ends c.args.run.now script lane in
          let box : Box = lane_box ends line spans steps lane in
          let w : PairWorld = p.world in
          let keys : PairSignals = p.keys in
          let u : GateSignals = p.pairs in
          let before = c.loop-t.invariant.lanes lane inside in
          let told : AreTold w keys u t net.gates =
          λ i gate at. gate_pairs-kind c.gates_stand_for_their_trees.ensures.kinds w keys net.gates
          i gate t c.args.run.now.compiled.now.of_line.laws.gates at in
          let sent : KeysSent rails lane keys t c.as_slice-in-loop-t.result.now =
          subst (KeysSent rails lane keys t) (sym c.as_slice-in-loop-t.ensures.value) before.keys_sent in
          let ready : IsReady g.V.Signal.signal g.V.Timed.stands_for lane w keys u t net.gates
          c.as_slice-in-loop-t.result.now c.loop-t.cells.items =
          record { told = told; sent = sent; stand = before.cells_stand } in
          let world : IsWorldAt ends lane c.present.result.now c.as_slice.result.now w t =
          subst (λ l. IsWorldAt ends lane l c.as_slice.result.now w t)
          (sym c.present.ensures)
          (subst (λ l. IsWorldAt ends lane inputs.shown.present l w t)
          (sym c.as_slice.ensures.value)
          (world_at g.V.Signal.signal c.args.run.now inputs.delays.items t
          c.turn.ensures.delays c.turn.ensures.stand c.turn.ensures.set lane script inputs.shown
          inputs.until (c.turn.ensures.shown script.spans.items c.loop-t.invariant.shown)
          c.turn.ensures.later)) in
          let agree : ValuesAgree rails lane u t column =
          c.walk.ensures.answers lane w keys u inside world ready in
          let agree' : ValuesAgree rails lane u t c.as_slice-in-loop-t-2.result.now =
          subst (ValuesAgree rails lane u t) (sym c.as_slice-in-loop-t-2.ensures.value) agree in
          let are_keys : (k : ℕ) → k < length net.keys → u (key_of net k) t ≡ keys k t =
          λ k kn. key_pair c.line_laws.ensures c.gates_stand_for_their_trees.ensures line script
          box (c.requires.delayed lane inside) net c.args.run.now.compiled.now.of_line k t
          (subst (λ (m : ℕ). k < m) c.args.run.now.compiled.now.of_line.terminals kn)
          c.loop-t-test.true in
          subst (λ (m : ℕ). LaneStands g.V.Signal.signal g.V.Timed.stands_for lane w keys u m
          net.gates c.send_all.new.tracks.items c.walk.new.cells.items
          c.extend_within.new.list.items) next
          (record {
            keys_sent =
                subst (λ (m : ℕ). KeysSent rails lane keys m c.send_all.new.tracks.items) (sym next)
                (c.send_all.ensures.keys lane keys inside
                (one_tick_sent rails lane keys u t (t + 1) net.keys c.key_gates-in-loop-t.result.now
                c.as_slice-in-loop-t-2.result.now refl c.key_gates-in-loop-t.ensures agree' are_keys)
                before.keys_sent);
            cells_stand = c.walk.ensures.stands lane w keys u inside world ready;
            told = subst (ValuesTold rails lane u n) (sym pushed)
                (values_more rails lane u t n values column long wide agree before.told);
          });
    }

pub extend_within-requires : goal.extend_within-requires
extend_within-requires g c =
    tick_has_room c.loop-t.t c.args.run.now.compiled.now.line.now.horizon
    (length c.args.run.now.compiled.now.net.now.gates) _ _ _ _ c.loop-t-test.true
    c.loop-t.invariant.count (ap length c.as_slice-in-loop-t-3.ensures.value)
    c.walk.ensures.count c.loop-t.invariant.values_room

pub returns-clause-count : goal.returns-clause-count
returns-clause-count g c =
    all_told c.loop-t.t c.args.run.now.compiled.now.line.now.horizon
    (length c.args.run.now.compiled.now.net.now.gates) _ c.loop-t-test.false c.loop-t.auto.t-end
    c.loop-t.invariant.count

pub returns-clause-told : goal.returns-clause-told
returns-clause-told g c = λ lane inside. (c.loop-t.invariant.lanes lane inside).told
