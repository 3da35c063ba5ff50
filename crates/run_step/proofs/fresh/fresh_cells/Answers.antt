use Rattle.std.proofs.Common.{◌≡◌, ℕ, ◌+◌, ◌≤◌, List, ◌++◌, ◌∷◌, [], Some, sym, ◌∙◌, ap, arith, length}
use Rattle.std.proofs.Common.{length-append}
use Rattle.std.specs.Prelude.{slice_get}
use Rattle.run_step.specs.CellStands.{HasCell, CellStands}
use Rattle.run_step.specs.WalkLaws.{one_more}
use Rattle.run_step.proofs.fresh.fresh_cells.Goals as goal

-- what was made for so many has room for them
has_room : (n width room : ℕ) → room ≡ width → width ≡ n → n ≤ room
has_room n width room made same = omega (arith, made, same)

all_done : (i end n : ℕ) → i ≤ end → end ≤ i → end ≡ n → i ≡ n
all_done i end n under over is = omega (arith, under, over, is)

-- no cell is in an empty list
none_yet : {X : Type 0} (said : X → Type 0) (cells : List X) → cells ≡ [] → (i : ℕ) (x : X)
    → slice_get cells i ≡ Some x → said x
none_yet said [] none i x at = absurd (cc)
none_yet said (y ∷ cells) none i x at = absurd (cc)

pub loop-i-init : goal.loop-i-init
loop-i-init g c =
    let gates = c.args.net.now.gates in
    let cells = c.in_ok-cells.cells.items in
    let none : cells ≡ [] = c.in_ok-cells.ensures.items in
    record {
      count = ap length none;
      room = has_room (length gates) c.len.result _ c.in_ok-cells.ensures.exact c.len.ensures.len;
      shape = λ j gate cell ga ca. none_yet (HasCell gate) cells none j cell ca;
      stands = λ lane w u inside times j gate cell ga ca.
          none_yet (CellStands g.V.Signal.signal g.V.Timed.stands_for lane w u 0 gate) cells none j
          cell ca;
    }

pub returns-clause-shape : goal.returns-clause-shape
returns-clause-shape g c = record {
  count = c.loop-i.invariant.count
      ∙ all_done c.loop-i.i c.len-i-end.result (length c.args.net.now.gates) c.loop-i.auto.i-end
      c.loop-i-test.false c.len-i-end.ensures.len;
  each = c.loop-i.invariant.shape;
}

pub returns-clause-stands : goal.returns-clause-stands
returns-clause-stands g c = c.loop-i.invariant.stands

pub loop-i-preserved : goal.loop-i-preserved
loop-i-preserved g c =
    let cells = c.loop-i.cells.items in
    let gates = c.args.net.now.gates in
    let x = c.fresh_cell.result in
    let pushed : c.push_reserved.new.self.items ≡ cells ++ x ∷ [] = c.push_reserved.ensures.items in
    record {
      count = ap length pushed ∙ length-append cells (x ∷ [])
          ∙ ap (λ (n : ℕ). n + 1) c.loop-i.invariant.count;
      room = omega (arith, c.loop-i.invariant.room, c.push_reserved.ensures.capacity);
      shape = λ j gate cell ga ca.
          one_more HasCell gates cells c.loop-i.i c.gate.result.now x c.loop-i.invariant.count
          c.gate.ensures.is c.loop-i.invariant.shape c.fresh_cell.ensures.shape j gate cell ga
          (ap (λ l. slice_get l j) (sym pushed) ∙ ca);
      stands = λ lane w u inside times j gate cell ga ca.
          one_more
          (CellStands g.V.Signal.signal g.V.Timed.stands_for lane w u 0)
          gates cells c.loop-i.i c.gate.result.now x c.loop-i.invariant.count c.gate.ensures.is
          (c.loop-i.invariant.stands lane w u inside times)
          (c.fresh_cell.ensures.stands lane w u inside times) j gate cell ga
          (ap (λ l. slice_get l j) (sym pushed) ∙ ca);
    }

pub fresh_cell-requires-clause-names : goal.fresh_cell-requires-clause-names
fresh_cell-requires-clause-names g c =
    c.requires.names.each c.loop-i.i c.gate.result.now (omega arith) c.gate.ensures.is
