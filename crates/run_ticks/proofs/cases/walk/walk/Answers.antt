use Rattle.std.proofs.Common.{◌≡◌, ℕ, ◌<◌, ◌≤◌, ◌+◌, ◌++◌, ◌∷◌, [], Some, refl, sym, ◌∙◌, ap}
use Rattle.std.proofs.Common.{length, length-append, subst}
use Rattle.std.proofs.lemmas.Option.{slice_get_within, slice_get_read}
use Rattle.std.specs.Prelude.{slice_get, vec_capacity, vec_len}
use Rattle.net_gates.specs.{Formulas.formula_of, Gates.HasArguments}
use Rattle.model_settle.specs.Under.{assumed_or}
use Rattle.run_step.specs.Ticks.{ValuesAgree}
use Rattle.run_ticks.specs.cases.Masks.{HaveRows}
use Rattle.run_ticks.proofs.cases_lemmas.MaskLaws.{put_is}
use Rattle.run_step.specs.WalkLaws.{have_more, cells_more, walked_none, agree_none, agree_more}
use Rattle.run_ticks.proofs.RoomLaws.{from_none, no_less, all_done, is_done, place_left}
use Rattle.run_ticks.proofs.cases.walk.walk.Goals as goal

pub loop-i-init : goal.loop-i-init
loop-i-init g c = record {
  room = subst (λ (n : ℕ). length c.args.net.now.gates ≤ n) (sym c.clear.ensures.capacity)
      c.requires.room;
  own_room = subst (λ (n : ℕ). length c.args.net.now.gates ≤ n) (sym c.clear-2.ensures.capacity)
      c.requires.own_room;
  count = ap length c.clear.ensures.items;
  own_count = ap length c.clear-2.ensures.items;
  cells = c.requires.cells;
  walked = λ lane level w keys u v inside put world ready. (
    (
      agree_none g.V.Signal.signal.rails lane u c.args.t c.clear.new.self.items c.clear.ensures.items,
      agree_none g.V.Signal.signal.rails lane v c.args.t c.clear-2.new.self.items
          c.clear-2.ensures.items,
    ),
    walked_none g.V.Signal.signal g.V.Timed.stands_for lane w u c.args.t
        c.args.net.now.gates c.args.cells.now.items ready.stand,
  );
}

pub gate-gate-requires : goal.gate-gate-requires
gate-gate-requires g c =
    subst (λ (n : ℕ). c.loop-i.i < n) c.len-i-end.ensures.len c.loop-i-test.true

pub index_mut-requires : goal.index_mut-requires
index_mut-requires g c =
    subst (λ (n : ℕ). c.loop-i.i < n)
    (c.len-i-end.ensures.len ∙ sym (c.loop-i.cells.ok.0 ∙ c.loop-i.invariant.cells.count))
    c.loop-i-test.true

pub answer-own-requires-clause-names : goal.answer-own-requires-clause-names
answer-own-requires-clause-names g c =
    c.requires.names.each c.loop-i.i c.gate-gate.result.now (from_none c.loop-i.i) c.gate-gate.ensures.is

pub answer-own-requires-clause-arguments : goal.answer-own-requires-clause-arguments
answer-own-requires-clause-arguments g c =
    let here = c.gate-gate.result.now in
    subst (λ (n : ℕ). HasArguments n here)
    (sym (ap length c.as_slice.ensures.value ∙ c.loop-i.invariant.count))
    (c.len-i-end.ensures.laws.gates.earlier c.loop-i.i here c.gate-gate.ensures.is)

pub answer-own-requires-clause-cell : goal.answer-own-requires-clause-cell
answer-own-requires-clause-cell g c =
    let here = c.gate-gate.result.now in
    let inside = slice_get_within c.args.net.now.gates c.loop-i.i here c.gate-gate.ensures.is in
    c.loop-i.invariant.cells.each c.loop-i.i here c.index_mut.result.now c.gate-gate.ensures.is
    (slice_get_read c.loop-i.cells.items (length c.args.net.now.gates) c.loop-i.i
    c.index_mut.result.now (sym c.loop-i.invariant.cells.count) inside c.index_mut.ensures.value)

pub answer-own-requires-clause-tick : goal.answer-own-requires-clause-tick
answer-own-requires-clause-tick g c = c.requires.tick

pub answer-own-requires-clause-delays : goal.answer-own-requires-clause-delays
answer-own-requires-clause-delays g c = c.requires.delays

pub answer-own-requires-clause-sent : goal.answer-own-requires-clause-sent
answer-own-requires-clause-sent g c = c.requires.sent

pub mask_at-mask-requires-clause-rows : goal.mask_at-mask-requires-clause-rows
mask_at-mask-requires-clause-rows g c =
    subst (λ (n : ℕ). HaveRows n c.args.line.now.horizon c.args.masks.now) (sym c.len.ensures.len)
    c.requires.rows

pub mask_at-mask-requires-clause-gate : goal.mask_at-mask-requires-clause-gate
mask_at-mask-requires-clause-gate g c =
    subst (λ (n : ℕ). c.loop-i.i < n) (c.len-i-end.ensures.len ∙ sym c.len.ensures.len)
    c.loop-i-test.true

pub mask_at-mask-requires-clause-short : goal.mask_at-mask-requires-clause-short
mask_at-mask-requires-clause-short g c = c.args.line.now.horizon_in_range.1

pub push_reserved-requires : goal.push_reserved-requires
push_reserved-requires g c =
    let long : vec_len c.loop-i.owns ≡ c.loop-i.i = c.loop-i.owns.ok.0 ∙ c.loop-i.invariant.own_count in
    place_left (vec_len c.loop-i.owns) c.loop-i.i c.len-i-end.result (length c.args.net.now.gates)
    (vec_capacity c.loop-i.owns) long c.loop-i-test.true c.len-i-end.ensures.len
    c.loop-i.invariant.own_room

pub push_reserved-requires-in-loop-i : goal.push_reserved-requires-in-loop-i
push_reserved-requires-in-loop-i g c =
    let long : vec_len c.loop-i.column ≡ c.loop-i.i = c.loop-i.column.ok.0 ∙ c.loop-i.invariant.count in
    place_left (vec_len c.loop-i.column) c.loop-i.i c.len-i-end.result (length c.args.net.now.gates)
    (vec_capacity c.loop-i.column) long c.loop-i-test.true c.len-i-end.ensures.len
    c.loop-i.invariant.room

pub loop-i-preserved : goal.loop-i-preserved
loop-i-preserved g c =
    let t = c.args.t in
    let i = c.loop-i.i in
    let column = c.loop-i.column.items in
    let owns = c.loop-i.owns.items in
    let gates = c.args.net.now.gates in
    let cells = c.loop-i.cells.items in
    let own = c.answer-own.result in
    let x = c.put-value.result in
    let rails = g.V.Signal.signal.rails in
    let pushed : c.push_reserved-in-loop-i.new.self.items ≡ column ++ x ∷ [] =
    c.push_reserved-in-loop-i.ensures.items in
    let own_pushed : c.push_reserved.new.self.items ≡ owns ++ own ∷ [] =
    c.push_reserved.ensures.items in
    let old_room : length gates ≤ vec_capacity c.loop-i.column = c.loop-i.invariant.room in
    let same_room : vec_capacity c.push_reserved-in-loop-i.new.self ≡ vec_capacity c.loop-i.column =
    c.push_reserved-in-loop-i.ensures.capacity in
    let old_own : length gates ≤ vec_capacity c.loop-i.owns = c.loop-i.invariant.own_room in
    let same_own : vec_capacity c.push_reserved.new.self ≡ vec_capacity c.loop-i.owns =
    c.push_reserved.ensures.capacity in
    let here = c.gate-gate.result.now in
    let gate_is = c.gate-gate.ensures.is in
    let inside : i < length gates = slice_get_within gates i here gate_is in
    let old : slice_get cells i ≡ Some c.index_mut.result.now =
    slice_get_read cells (length gates) i c.index_mut.result.now
    (sym c.loop-i.invariant.cells.count) inside c.index_mut.ensures.value in
    record {
      room = subst (λ (n : ℕ). length gates ≤ n) (sym same_room) old_room;
      own_room = subst (λ (n : ℕ). length gates ≤ n) (sym same_own) old_own;
      count = ap length pushed ∙ length-append column (x ∷ [])
          ∙ ap (λ (n : ℕ). n + 1) c.loop-i.invariant.count;
      own_count = ap length own_pushed ∙ length-append owns (own ∷ [])
          ∙ ap (λ (n : ℕ). n + 1) c.loop-i.invariant.own_count;
      cells = have_more gates cells i here c.answer-own.new.cell gate_is
          c.loop-i.invariant.cells c.answer-own.ensures.shape;
      walked = λ lane level w keys u v inside put world ready.
          let before = c.loop-i.invariant.walked lane level w keys u v inside put world ready in
          let agree : ValuesAgree rails lane u t c.as_slice.result.now =
          subst (ValuesAgree rails lane u t) (sym c.as_slice.ensures.value) before.0.0 in
          let now = before.1.left i here c.index_mut.result.now (no_less i) gate_is old in
          let own_is : rails own lane ≡ v i t =
          c.answer-own.ensures.answers lane w keys u inside world ready.sent agree now
          ∙ sym (ready.told.owns i here gate_is) in
          let value_is : rails x lane ≡ u i t =
          c.put-value.ensures lane inside
          ∙ put_is (level lane (formula_of gates i) t) (rails own lane) _ _
          (c.mask_at-mask.ensures level (formula_of gates) lane inside put)
          ∙ ap (assumed_or (level lane (formula_of gates i) t)) own_is
          ∙ sym (ready.told.put i) in (
            (
              subst (ValuesAgree rails lane u t) (sym pushed)
                  (agree_more rails lane u t i x column c.loop-i.invariant.count value_is
                  before.0.0),
              subst (ValuesAgree rails lane v t) (sym own_pushed)
                  (agree_more rails lane v t i own owns c.loop-i.invariant.own_count own_is
                  before.0.1),
            ),
            cells_more g.V.Signal.signal g.V.Timed.stands_for lane w u t gates i (i + 1) here
                c.index_mut.result.now c.answer-own.new.cell cells refl gate_is old before.1
                (λ h. c.answer-own.ensures.stands lane w u inside agree h),
          );
    }

pub returns-clause-room : goal.returns-clause-room
returns-clause-room g c = c.loop-i.invariant.room

pub returns-clause-own_room : goal.returns-clause-own_room
returns-clause-own_room g c = c.loop-i.invariant.own_room

pub returns-clause-count : goal.returns-clause-count
returns-clause-count g c =
    all_done _ c.loop-i.i c.len-i-end.result (length c.args.net.now.gates)
    c.loop-i.invariant.count c.loop-i.auto.i-end c.loop-i-test.false c.len-i-end.ensures.len

pub returns-clause-own_count : goal.returns-clause-own_count
returns-clause-own_count g c =
    all_done _ c.loop-i.i c.len-i-end.result (length c.args.net.now.gates)
    c.loop-i.invariant.own_count c.loop-i.auto.i-end c.loop-i-test.false c.len-i-end.ensures.len

pub returns-clause-cells : goal.returns-clause-cells
returns-clause-cells g c = c.loop-i.invariant.cells

pub returns-clause-stands : goal.returns-clause-stands
returns-clause-stands g c = λ lane level w keys u v inside put world ready i gate cell ga ca.
    let within : i < length c.args.net.now.gates =
    slice_get_within c.args.net.now.gates i gate ga in
    let lt : i < c.loop-i.i =
    is_done i c.loop-i.i c.len-i-end.result (length c.args.net.now.gates) within
    c.len-i-end.ensures.len c.loop-i-test.false in
    (c.loop-i.invariant.walked lane level w keys u v inside put world ready).1.done i gate cell lt
    ga ca

pub returns-clause-answers : goal.returns-clause-answers
returns-clause-answers g c = λ lane level w keys u v inside put world ready.
    (c.loop-i.invariant.walked lane level w keys u v inside put world ready).0
