use Rattle.std.proofs.Common.{◌+◌, ℕ, [], ◌∷◌, length, length-append, sym, ◌∙◌, ap}
use Rattle.model_history.specs.ListLaws.{each_more}
use Rattle.judge_margins.specs.map.Axes.{place_box}
use Rattle.judge_map.specs.Cells.{IsSettledCell}
use Rattle.judge_map.proofs.settled.settled_cells.Goals as goal

pub loop-n-preserved : goal.loop-n-preserved
loop-n-preserved c =
    let line = c.args.line.now in
    let scripts = c.args.scripts.now in
    let axes = c.args.axes.now in
    let n : ℕ = c.loop-n.n in
    let cell = c.in_ok-settled_cell.field-0 in
    record {
      count = ap length c.in_ok-push.ensures.items
          ∙ length-append c.loop-n.settled.items (cell ∷ [])
          ∙ ap (λ (l : ℕ). l + 1) c.loop-n.invariant.count;
      each = each_more (λ place x. IsSettledCell line scripts (place_box line axes place) x)
          c.loop-n.settled.items c.push.new.self.items cell n c.in_ok-push.ensures.items
          (sym c.loop-n.invariant.count) c.loop-n.invariant.each c.in_ok-settled_cell.ensures;
    }
