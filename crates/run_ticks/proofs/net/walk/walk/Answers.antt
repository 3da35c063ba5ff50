use Rattle.std.proofs.Common.{◌≡◌, ℕ, ◌<◌, ◌≤◌, ◌+◌, ◌++◌, ◌∷◌, [], Some, refl, sym, ◌∙◌, ap}
use Rattle.std.proofs.Common.{length, length-append, subst}
use Rattle.std.proofs.lemmas.Option.{slice_get_within, slice_get_read}
use Rattle.std.specs.Prelude.{slice_get, vec_capacity}
use Rattle.net_gates.specs.Gates.{HasArguments}
use Rattle.run_step.specs.Ticks.{ValuesAgree}
use Rattle.run_step.specs.WalkLaws.{have_more, walked_more, walked_none, agree_none}
use Rattle.run_step.specs.ShownByLaws.{world_shows}
use Rattle.run_ticks.proofs.RoomLaws.{from_none, all_done, is_done, place_left}
use Rattle.run_ticks.proofs.net.walk.walk.Goals as goal

pub loop-i-init : goal.loop-i-init
loop-i-init g c = record {
  room = subst (λ (n : ℕ). length c.args.net.now.gates ≤ n) (sym c.clear.ensures.capacity)
      c.requires.room;
  count = ap length c.clear.ensures.items;
  cells = c.requires.cells;
  walked = λ lane w keys u inside world ready. (
    agree_none g.V.Signal.signal.rails lane u c.args.moment.now.t c.clear.new.self.items
        c.clear.ensures.items,
    walked_none g.V.Signal.signal g.V.Timed.stands_for lane w u c.args.moment.now.t
        c.args.net.now.gates c.args.cells.now.items ready.stand,
  );
}

pub gate-requires : goal.gate-requires
gate-requires g c =
    subst (λ (n : ℕ). c.loop-i.i < n) c.len-i-end.ensures.len c.loop-i-test.true

pub index_mut-requires : goal.index_mut-requires
index_mut-requires g c =
    subst (λ (n : ℕ). c.loop-i.i < n)
    (c.len-i-end.ensures.len ∙ sym (c.loop-i.cells.ok.0 ∙ c.loop-i.invariant.cells.count))
    c.loop-i-test.true

pub answer-value-requires-clause-names : goal.answer-value-requires-clause-names
answer-value-requires-clause-names g c =
    c.requires.names.each c.loop-i.i c.gate.result.now (from_none c.loop-i.i) c.gate.ensures.is

pub answer-value-requires-clause-arguments : goal.answer-value-requires-clause-arguments
answer-value-requires-clause-arguments g c =
    let here = c.gate.result.now in
    subst (λ (n : ℕ). HasArguments n here)
    (sym (ap length c.as_slice.ensures.value ∙ c.loop-i.invariant.count))
    (c.len-i-end.ensures.laws.gates.earlier c.loop-i.i here c.gate.ensures.is)

pub answer-value-requires-clause-cell : goal.answer-value-requires-clause-cell
answer-value-requires-clause-cell g c =
    let here = c.gate.result.now in
    let inside = slice_get_within c.args.net.now.gates c.loop-i.i here c.gate.ensures.is in
    c.loop-i.invariant.cells.each c.loop-i.i here c.index_mut.result.now c.gate.ensures.is
    (slice_get_read c.loop-i.cells.items (length c.args.net.now.gates) c.loop-i.i
    c.index_mut.result.now (sym c.loop-i.invariant.cells.count) inside c.index_mut.ensures.value)

pub answer-value-requires-clause-moment : goal.answer-value-requires-clause-moment
answer-value-requires-clause-moment g c = c.requires.moment

pub push_reserved-requires : goal.push_reserved-requires
push_reserved-requires g c =
    place_left _ c.loop-i.i c.len-i-end.result (length c.args.net.now.gates) _
    (c.loop-i.column.ok.0 ∙ c.loop-i.invariant.count) c.loop-i-test.true c.len-i-end.ensures.len
    c.loop-i.invariant.room

pub loop-i-preserved : goal.loop-i-preserved
loop-i-preserved g c =
    let t = c.args.moment.now.t in
    let i = c.loop-i.i in
    let column = c.loop-i.column.items in
    let gates = c.args.net.now.gates in
    let cells = c.loop-i.cells.items in
    let x = c.answer-value.result in
    let rails = g.V.Signal.signal.rails in
    let pushed : c.push_reserved.new.self.items ≡ column ++ x ∷ [] = c.push_reserved.ensures.items in
    let old_room : length gates ≤ vec_capacity c.loop-i.column = c.loop-i.invariant.room in
    let same_room : vec_capacity c.push_reserved.new.self ≡ vec_capacity c.loop-i.column =
    c.push_reserved.ensures.capacity in
    let here = c.gate.result.now in
    let gate_is = c.gate.ensures.is in
    let inside : i < length gates = slice_get_within gates i here gate_is in
    let old : slice_get cells i ≡ Some c.index_mut.result.now =
    slice_get_read cells (length gates) i c.index_mut.result.now
    (sym c.loop-i.invariant.cells.count) inside c.index_mut.ensures.value in
    record {
      room = subst (λ (n : ℕ). length gates ≤ n) (sym same_room) old_room;
      count = ap length pushed ∙ length-append column (x ∷ [])
          ∙ ap (λ (n : ℕ). n + 1) c.loop-i.invariant.count;
      cells = have_more gates cells i here c.answer-value.new.cell gate_is
          c.loop-i.invariant.cells c.answer-value.ensures.shape;
      walked = λ lane w keys u inside world ready.
          let before = c.loop-i.invariant.walked lane w keys u inside world ready in
          let agree : ValuesAgree rails lane u t c.as_slice.result.now =
          subst (ValuesAgree rails lane u t) (sym c.as_slice.ensures.value) before.0 in
          let more = walked_more g.V.Signal.signal g.V.Timed.stands_for lane w keys u t gates
          i (i + 1) here c.index_mut.result.now c.answer-value.new.cell x column
          cells refl gate_is old c.loop-i.invariant.count ready.told before
          (λ h. c.answer-value.ensures.stands lane w u inside agree h)
          (λ h. c.answer-value.ensures.answers lane w keys u inside
          (world_shows c.args.present.now w t world.seen world.lost here) world.channels ready.sent
          agree h) in
          (subst (ValuesAgree rails lane u t) (sym pushed) more.0, more.1);
    }

pub returns-clause-room : goal.returns-clause-room
returns-clause-room g c = c.loop-i.invariant.room

pub returns-clause-count : goal.returns-clause-count
returns-clause-count g c =
    all_done _ c.loop-i.i c.len-i-end.result (length c.args.net.now.gates)
    c.loop-i.invariant.count c.loop-i.auto.i-end c.loop-i-test.false c.len-i-end.ensures.len

pub returns-clause-cells : goal.returns-clause-cells
returns-clause-cells g c = c.loop-i.invariant.cells

pub returns-clause-stands : goal.returns-clause-stands
returns-clause-stands g c = λ lane w keys u inside world ready i gate cell ga ca.
    let within : i < length c.args.net.now.gates =
    slice_get_within c.args.net.now.gates i gate ga in
    let lt : i < c.loop-i.i =
    is_done i c.loop-i.i c.len-i-end.result (length c.args.net.now.gates) within
    c.len-i-end.ensures.len c.loop-i-test.false in
    (c.loop-i.invariant.walked lane w keys u inside world ready).1.done i gate cell lt ga ca

pub returns-clause-answers : goal.returns-clause-answers
returns-clause-answers g c = λ lane w keys u inside world ready.
    (c.loop-i.invariant.walked lane w keys u inside world ready).0
