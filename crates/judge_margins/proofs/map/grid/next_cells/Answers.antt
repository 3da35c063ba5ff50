use Rattle.std.proofs.Common.{◌≡◌, ◌≤◌, ◌+◌, ◌-◌, ℕ, [], ◌∷◌, List, length, length-append, subst, sym, ◌∙◌, ap, arith}
use Rattle.std.proofs.Math.Nat.{min-eq_left}
use Rattle.judge_margins.specs.map.Axes.{cell_count, place_box}
use Rattle.judge_margins.specs.{map.Blocks.IsLaneOf, map.Blocks.lane_cell, map.Cells.IsCell}
use Rattle.judge_margins.specs.declared.map.ruled.Ruled.{Ruled}
use Rattle.judge_margins.proofs.{map_lemmas.RuledLaws.cell_of_lane}
use Rattle.model_history.specs.ListLaws.{each_more}
use Rattle.judge_margins.proofs.map.grid.next_cells.Goals as goal

pub loop-lane-preserved : goal.loop-lane-preserved
loop-lane-preserved c =
    let line = c.args.compiled.now.line.now in
    let scripts = c.args.scripts.now in
    let axes = c.args.axes.now in
    let first : ℕ = c.len-first.result in
    let lane : ℕ = c.loop-lane.lane in
    let cell = c.in_ok-cell.cell in
    let inside : first + lane ≤ cell_count axes - 1 = omega (arith, c.min-lanes.ensures, c.cells.ensures.count) in
    let one_more : first + lane + 1 ≡ first + (lane + 1) = omega arith in
    record {
      count = ap length c.in_ok-push.ensures.items
          ∙ length-append c.loop-lane.cells.items (cell ∷ []) ∙ ap (λ (n : ℕ). n + 1) c.loop-lane.invariant.count
          ∙ one_more;
      each = each_more (λ place x. IsCell line scripts (place_box line axes place) x)
          c.loop-lane.cells.items c.push.new.self.items cell (first + lane) c.in_ok-push.ensures.items
          (sym c.loop-lane.invariant.count) c.loop-lane.invariant.each
          (subst (λ (n : ℕ). IsCell line scripts (place_box line axes n) cell) (min-eq_left inside)
          (cell_of_lane line scripts (lane_cell line axes first) lane c.in_ok-ruled.ruled.items cell
          (omega arith) c.in_ok-ruled.ensures
          (subst (λ (l : List Ruled). IsLaneOf l lane cell) c.deref.ensures.value c.in_ok-cell.ensures)));
    }
