use Rattle.std.proofs.Common.{◌≡◌, ℕ, suc, ◌<◌, ◌≤◌, ◌+◌, ◌*◌, ◌++◌, refl, sym, ◌∙◌, ap}
use Rattle.std.proofs.Common.{add-one, length, length-append, subst}
use Rattle.std.specs.Prelude.{vec_capacity}
use Rattle.model_line.specs.Parameters.{terminal_count}
use Rattle.model_logic.specs.PairMean.{PairWorld}
use Rattle.model_logic.specs.Choice.{pair_world_of}
use Rattle.model_logic.specs.Tree.{Tree}
use Rattle.model_settle.specs.Under.{pair_under}
use Rattle.net_gates.specs.NetOf.{key_of, AreGatesOf}
use Rattle.run_step.specs.{GatePairs.GateSignals, Ticks.AreSent, Ticks.KeysSent}
use Rattle.run_step.specs.Ticks.{ValuesAgree, ValuesTold}
use Rattle.run_ticks.specs.cases.Ticks.{IsReady, LaneStands, under_pairs, own_pairs}
use Rattle.run_ticks.specs.cases.Given.{CanReceive, IsWorldAt, span_box, spans_at}
use Rattle.run_ticks.proofs.cases_lemmas.GivenLaws.{can_receive, world_at}
use Rattle.run_step.specs.SendLaws.{none_sent, fresh_sent, one_tick_sent}
use Rattle.run_ticks.proofs.cases_lemmas.ValueLaws.{values_none, values_more}
use Rattle.run_ticks.proofs.cases_lemmas.UnderLaws.{gates_told}
use Rattle.run_ticks.proofs.RoomLaws.{product_fits, terminals_fit, none_so_far, has_room, room_kept}
use Rattle.run_ticks.proofs.RoomLaws.{tick_more, tick_has_room, all_told, fits_once}
use Rattle.run_ticks.proofs.cases.ticks.run_ticks.Goals as goal

pub fresh_cells-requires : goal.fresh_cells-requires
fresh_cells-requires g c =
    record { names = c.args.compiled.now.of_line.named; spans = c.requires.one_each }

pub fresh_delays-requires : goal.fresh_delays-requires
fresh_delays-requires g c = record { spans = c.requires.one_each }

pub fresh_tracks-requires : goal.fresh_tracks-requires
fresh_tracks-requires g c = c.args.compiled.now.line.now.horizon_in_range.1

pub overflow_mul-compiled : goal.overflow_mul-compiled
overflow_mul-compiled g c =
    product_fits c.args.compiled.now.line.now.horizon c.len-width.result
    c.args.compiled.now.line.now.horizon_in_range.1 c.len-width.ensures.few

pub overflow_mul-compiled-2 : goal.overflow_mul-compiled-2
overflow_mul-compiled-2 g c =
    product_fits c.args.compiled.now.line.now.horizon c.len-width.result
    c.args.compiled.now.line.now.horizon_in_range.1 c.len-width.ensures.few

pub overflow_cast-key_gates : goal.overflow_cast-key_gates
overflow_cast-key_gates g c =
    terminals_fit (length c.key_gates.result.now) _ _ (ap length c.key_gates.ensures)
    c.args.compiled.now.of_line.terminals c.args.compiled.now.line.now.two_or_three.1

pub loop-t-init : goal.loop-t-init
unfolding pair_world_of
loop-t-init g c =
    let line = c.args.compiled.now.line.now in
    let net = c.args.compiled.now.net.now in
    let n = length net.gates in
    let count = length c.key_gates.result.now in
    let all : count ≡ terminal_count line =
    ap length c.key_gates.ensures ∙ c.args.compiled.now.of_line.terminals in
    let width : c.len-width.result ≡ n = c.len-width.ensures.len in
    let all_ticks : line.horizon * c.len-width.result ≡ line.horizon * n =
    ap (λ (m : ℕ). line.horizon * m) width in
    record {
      count = none_so_far n _ (ap length c.in_ok-values.ensures.items);
      own_count = none_so_far n _ (ap length c.in_ok-owns.ensures.items);
      column_room = has_room n c.len-width.result _ c.in_ok-column.ensures.exact width;
      own_column_room = has_room n c.len-width.result _ c.in_ok-own_column.ensures.exact width;
      present_room = has_room (length c.args.script.now.spans.items) c.len.result _
          c.in_ok-present.ensures.exact (c.len.ensures ∙ c.args.script.now.spans.ok.0);
      values_room = has_room (line.horizon * n) _ _ c.in_ok-values.ensures.exact all_ticks;
      owns_room = has_room (line.horizon * n) _ _ c.in_ok-owns.ensures.exact all_ticks;
      cells = c.in_ok-cells.ensures.shape;
      sent = subst (λ (m : ℕ). AreSent m line.horizon 0 c.in_ok-sent.sent.items) all
          (fresh_sent count line.horizon c.in_ok-sent.sent.items c.in_ok-sent.ensures);
      lanes = λ lane level keys inside put are.
          let w : PairWorld =
          pair_world_of line c.args.script.now
          (span_box g.V.Signal.signal.ends line c.args.spans.now lane) in
          let u : GateSignals = under_pairs (level lane) w keys net.gates in
          let v : GateSignals = own_pairs (level lane) w keys net.gates in
          record {
            keys_sent = none_sent g.V.Signal.signal.rails lane count line.horizon keys
                c.in_ok-sent.sent.items c.in_ok-sent.ensures;
            cells_stand = c.in_ok-cells.ensures.stands lane w u inside (λ x. refl);
            told = subst (ValuesTold g.V.Signal.signal.rails lane u n)
                (sym c.in_ok-values.ensures.items)
                (values_none g.V.Signal.signal.rails lane u n);
            own_told = subst (ValuesTold g.V.Signal.signal.rails lane v n)
                (sym c.in_ok-owns.ensures.items)
                (values_none g.V.Signal.signal.rails lane v n);
          };
    }

pub show_at-requires : goal.show_at-requires
show_at-requires g c =
    let room : length c.args.script.now.spans.items ≤ vec_capacity c.loop-t.present =
    c.loop-t.invariant.present_room in
    record {
      room = subst (λ l. length l ≤ vec_capacity c.loop-t.present) (sym c.deref.ensures.value) room;
    }

pub walk-requires-clause-room : goal.walk-requires-clause-room
walk-requires-clause-room g c = c.loop-t.invariant.column_room

pub walk-requires-clause-own_room : goal.walk-requires-clause-own_room
walk-requires-clause-own_room g c = c.loop-t.invariant.own_column_room

pub walk-requires-clause-names : goal.walk-requires-clause-names
walk-requires-clause-names g c = c.args.compiled.now.of_line.named

pub walk-requires-clause-cells : goal.walk-requires-clause-cells
walk-requires-clause-cells g c = c.loop-t.invariant.cells

pub walk-requires-clause-rows : goal.walk-requires-clause-rows
walk-requires-clause-rows g c = c.requires.rows

pub walk-requires-clause-tick : goal.walk-requires-clause-tick
walk-requires-clause-tick g c = c.loop-t-test.true

pub walk-requires-clause-sent : goal.walk-requires-clause-sent
walk-requires-clause-sent g c =
    let line = c.args.compiled.now.line.now in
    subst (AreSent (terminal_count line) line.horizon c.loop-t.t)
    (sym c.as_slice-in-loop-t-2.ensures.value) c.loop-t.invariant.sent

pub walk-requires-clause-delays : goal.walk-requires-clause-delays
walk-requires-clause-delays g c =
    let line = c.args.compiled.now.line.now in
    subst (CanReceive g.V.Signal.signal line) (sym c.as_slice-in-loop-t.ensures.value)
    (can_receive g.V.Signal.signal line c.args.spans.now c.in_ok-delays.delays.items
    c.in_ok-delays.ensures c.loop-t.t c.loop-t-test.true c.requires.delayed)

pub send_all-requires-clause-gates : goal.send_all-requires-clause-gates
send_all-requires-clause-gates g c =
    let net = c.args.compiled.now.net.now in
    let wide : length c.as_slice-in-loop-t-3.result.now ≡ length net.gates =
    ap length c.as_slice-in-loop-t-3.ensures.value ∙ c.walk.ensures.count in
    subst (λ ids. AreGatesOf ids (length c.as_slice-in-loop-t-3.result.now))
    (sym c.key_gates-in-loop-t.ensures)
    (subst (λ (n : ℕ). AreGatesOf net.keys n) (sym wide) c.args.compiled.now.of_line.laws.keys)

pub send_all-requires-clause-room : goal.send_all-requires-clause-room
send_all-requires-clause-room g c =
    fits_once c.loop-t.t c.args.compiled.now.line.now.horizon c.loop-t-test.true

pub send_all-requires-clause-sent : goal.send_all-requires-clause-sent
send_all-requires-clause-sent g c =
    subst (λ (m : ℕ). AreSent m c.args.compiled.now.line.now.horizon c.loop-t.t c.loop-t.sent.items)
    (sym (ap length c.key_gates-in-loop-t.ensures ∙ c.args.compiled.now.of_line.terminals))
    c.loop-t.invariant.sent

pub loop-t-preserved : goal.loop-t-preserved
loop-t-preserved g c =
    let t = c.loop-t.t in
    let net = c.args.compiled.now.net.now in
    let line = c.args.compiled.now.line.now in
    let script = c.args.script.now in
    let spans = c.args.spans.now in
    let ends = g.V.Signal.signal.ends in
    let rails = g.V.Signal.signal.rails in
    let n = length net.gates in
    let next : suc t ≡ t + 1 = sym (add-one t) in
    let values = c.loop-t.values.items in
    let owns = c.loop-t.owns.items in
    let column = c.walk.new.column.items in
    let own_column = c.walk.new.owns.items in
    let long : length values ≡ t * n = c.loop-t.invariant.count in
    let own_long : length owns ≡ t * n = c.loop-t.invariant.own_count in
    let wide : length column ≡ n = c.walk.ensures.count in
    let own_wide : length own_column ≡ n = c.walk.ensures.own_count in
    let pushed : c.extend_within-in-loop-t.new.list.items ≡ values ++ column =
    c.extend_within-in-loop-t.ensures.items ∙ ap (λ l. values ++ l) c.as_slice-in-loop-t-5.ensures.value in
    let own_pushed : c.extend_within.new.list.items ≡ owns ++ own_column =
    c.extend_within.ensures.items ∙ ap (λ l. owns ++ l) c.as_slice-in-loop-t-4.ensures.value in
    let longer = tick_more t n (length values) (length column) long wide in
    let own_longer = tick_more t n (length owns) (length own_column) own_long own_wide in
    let room : line.horizon * n ≤ vec_capacity c.loop-t.values = c.loop-t.invariant.values_room in
    let more : vec_capacity c.loop-t.values ≤ vec_capacity c.extend_within-in-loop-t.new.list =
    c.extend_within-in-loop-t.ensures.room in
    let own_room : line.horizon * n ≤ vec_capacity c.loop-t.owns = c.loop-t.invariant.owns_room in
    let own_more : vec_capacity c.loop-t.owns ≤ vec_capacity c.extend_within.new.list =
    c.extend_within.ensures.room in
    let shown : length script.spans.items ≤ vec_capacity c.loop-t.present =
    c.loop-t.invariant.present_room in
    let still : vec_capacity c.loop-t.present ≤ vec_capacity c.show_at.new.present =
    c.show_at.ensures.room in
    record {
      count = ap length pushed ∙ length-append values column ∙ longer;
      own_count = ap length own_pushed ∙ length-append owns own_column ∙ own_longer;
      column_room = c.walk.ensures.room;
      own_column_room = c.walk.ensures.own_room;
      present_room = room_kept _ _ _ shown still;
      values_room = room_kept _ _ _ room more;
      owns_room = room_kept _ _ _ own_room own_more;
      cells = c.walk.ensures.cells;
      sent =
          subst (λ (m : ℕ). AreSent m line.horizon (t + 1) c.send_all.new.tracks.items)
          (ap length c.key_gates-in-loop-t.ensures ∙ c.args.compiled.now.of_line.terminals)
          c.send_all.ensures.count;
      lanes = λ lane level keys inside put are.
          let w : PairWorld = pair_world_of line script (span_box ends line spans lane) in
          let u : GateSignals = under_pairs (level lane) w keys net.gates in
          let v : GateSignals = own_pairs (level lane) w keys net.gates in
          let before = c.loop-t.invariant.lanes lane level keys inside put are in
          let sent : KeysSent rails lane keys t c.as_slice-in-loop-t-2.result.now =
          subst (KeysSent rails lane keys t) (sym c.as_slice-in-loop-t-2.ensures.value)
          before.keys_sent in
          let ready : IsReady g.V.Signal.signal g.V.Timed.stands_for lane (level lane) w keys u v t
          net.gates c.as_slice-in-loop-t-2.result.now c.loop-t.cells.items =
          record {
            told = gates_told (level lane) w keys (put.timers lane inside)
                c.gates_stand_for_their_trees.ensures.kinds net.gates t
                c.args.compiled.now.of_line.laws.gates;
            sent = sent;
            stand = before.cells_stand;
          } in
          let world : IsWorldAt ends lane c.as_slice.result.now c.as_slice-in-loop-t.result.now w t =
          subst (λ l. IsWorldAt ends lane l c.as_slice-in-loop-t.result.now w t)
          (sym (c.as_slice.ensures.value ∙ c.show_at.ensures.shown
          ∙ ap (spans_at t) c.deref.ensures.value))
          (subst (λ l. IsWorldAt ends lane (spans_at t script.spans.items) l w t)
          (sym c.as_slice-in-loop-t.ensures.value)
          (world_at g.V.Signal.signal line spans c.in_ok-delays.delays.items c.in_ok-delays.ensures
          lane t
          script)) in
          let agree = c.walk.ensures.answers lane level w keys u v inside put.put world ready in
          let agree' : ValuesAgree rails lane u t c.as_slice-in-loop-t-3.result.now =
          subst (ValuesAgree rails lane u t) (sym c.as_slice-in-loop-t-3.ensures.value) agree.0 in
          let are_keys : (k : ℕ) → k < length net.keys → u (key_of net k) t ≡ keys k t =
          λ k kn. let kn' : k < terminal_count line =
          subst (λ (m : ℕ). k < m) c.args.compiled.now.of_line.terminals kn in
          ap (λ (x : Tree). pair_under (level lane) w keys x t) (c.args.compiled.now.of_line.keys k
          kn')
          ∙ sym (are k t kn' c.loop-t-test.true) in
          subst (λ (m : ℕ). LaneStands g.V.Signal.signal g.V.Timed.stands_for lane w keys u v m
          net.gates c.send_all.new.tracks.items c.walk.new.cells.items
          c.extend_within-in-loop-t.new.list.items c.extend_within.new.list.items) next
          (record {
            keys_sent =
                subst (λ (m : ℕ). KeysSent rails lane keys m c.send_all.new.tracks.items) (sym next)
                (c.send_all.ensures.keys lane keys inside
                (one_tick_sent rails lane keys u t (t + 1) net.keys c.key_gates-in-loop-t.result.now
                c.as_slice-in-loop-t-3.result.now refl c.key_gates-in-loop-t.ensures agree'
                are_keys) before.keys_sent);
            cells_stand =
                c.walk.ensures.stands lane level w keys u v inside put.put world ready;
            told = subst (ValuesTold rails lane u n) (sym pushed)
                (values_more rails lane u t n values column long wide agree.0 before.told);
            own_told = subst (ValuesTold rails lane v n) (sym own_pushed)
                (values_more rails lane v t n owns own_column own_long own_wide agree.1
                before.own_told);
          });
    }

pub extend_within-requires : goal.extend_within-requires
extend_within-requires g c =
    tick_has_room c.loop-t.t c.args.compiled.now.line.now.horizon (length
    c.args.compiled.now.net.now.gates) _ _ _ _
    c.loop-t-test.true c.loop-t.invariant.own_count
    (ap length c.as_slice-in-loop-t-4.ensures.value) c.walk.ensures.own_count
    c.loop-t.invariant.owns_room

pub extend_within-requires-in-loop-t : goal.extend_within-requires-in-loop-t
extend_within-requires-in-loop-t g c =
    tick_has_room c.loop-t.t c.args.compiled.now.line.now.horizon (length
    c.args.compiled.now.net.now.gates) _ _ _ _
    c.loop-t-test.true c.loop-t.invariant.count
    (ap length c.as_slice-in-loop-t-5.ensures.value) c.walk.ensures.count
    c.loop-t.invariant.values_room

pub returns-clause-count : goal.returns-clause-count
returns-clause-count g c =
    all_told c.loop-t.t c.args.compiled.now.line.now.horizon (length
    c.args.compiled.now.net.now.gates) _
    c.loop-t-test.false c.loop-t.auto.t-end c.loop-t.invariant.count

pub returns-clause-own_count : goal.returns-clause-own_count
returns-clause-own_count g c =
    all_told c.loop-t.t c.args.compiled.now.line.now.horizon (length
    c.args.compiled.now.net.now.gates) _
    c.loop-t-test.false c.loop-t.auto.t-end c.loop-t.invariant.own_count

pub returns-clause-told : goal.returns-clause-told
returns-clause-told g c = λ lane level keys inside put are.
    let all = c.loop-t.invariant.lanes lane level keys inside put are in (all.told, all.own_told)
