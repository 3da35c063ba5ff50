use Rattle.std.proofs.Common.{◌≡◌}
use Rattle.std.proofs.lemmas.Result.{IfOk-weaker}
use Rattle.draw_shapes.specs.{Drawings.drawing_of, Svg.svg_of}
use Rattle.call_work.proofs.map.said.drawing_text.Goals as goal

pub returns-clause-drawn : goal.returns-clause-drawn
returns-clause-drawn c =
    let grid = c.in_ok-grid.grid in
    IfOk-weaker c.grid_text.result (λ text. text.items ≡ svg_of c.args.ask.now.made.now (drawing_of grid)) _
    (λ text printed. record {
      cells = c.args.cells.now;
      are = c.requires.cells;
      grid = grid;
      shows = rw (c.as_slice.ensures.value, c.names_of.ensures, c.second_names.ensures) at c.in_ok-grid.ensures.is;
      printed = printed;
    })
    c.grid_text.ensures.drawn
