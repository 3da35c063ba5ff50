use Rattle.std.proofs.Common.{◌≡◌, ◌<◌, ◌+◌, ◌++◌, ℕ, List, length, drop, get_or, sym, ◌∙◌, ap, arith, append_assoc, refl}
use Rattle.std.proofs.Math.Nat.{mul-le-mul}
use Rattle.std.proofs.lemmas.List.{at_drop_more}
use Rattle.std.proofs.lemmas.Option.{slice_get_read}
use Rattle.csv.specs.Writing.{row_text, default_writer}
use Rattle.model_line.specs.{declared.line.Line.Line, declared.script.Script.Script}
use Rattle.judge_margins.specs.{declared.map.axis.Axes.Axes, declared.map.cell.Cell.Cell}
use Rattle.judge_margins.specs.map.MapText.{cell_record, cell_rows}
use Rattle.judge_margins.specs.map.PlaceLaws.{few_cells}
use Rattle.judge_margins.proofs.map.text.map_text.Goals as goal

-- with the row of one cell more
row_more : (line : Line) (scripts : List Script) (axes : Axes) (cells : List Cell) (place : ℕ)
    (cell : Cell) (old new all : List ℕ) → place < length cells → cell ≡ get_or cells place cell
    → new ≡ old ++ row_text default_writer (cell_record line scripts axes place cell)
    → old ++ cell_rows line scripts axes place (drop place cells) ≡ all
    → new ++ cell_rows line scripts axes (place + 1) (drop (place + 1) cells) ≡ all
row_more line scripts axes cells place cell old new all inside is grown before =
    let rows = cell_rows line scripts axes in
    let rest : List ℕ = rows (place + 1) (drop (place + 1) cells) in
    let row = row_text default_writer (cell_record line scripts axes place cell) in
    let step : row ++ rest ≡ rows place (drop place cells) =
    ap (λ (x : Cell). row_text default_writer (cell_record line scripts axes place x) ++ rest) is
    ∙ sym (at_drop_more (rows place) cells place cell inside) in
    ap (λ (x : List ℕ). x ++ rest) grown
    ∙ append_assoc old row rest
    ∙ ap (λ (x : List ℕ). old ++ x) step
    ∙ before

pub bounds-cells-place : goal.bounds-cells-place
bounds-cells-place c = c.loop-place-test.true

pub offset_bounds-cells-place : goal.offset_bounds-cells-place
offset_bounds-cells-place c =
    omega (
      arith,
      c.requires.cells.count,
      few_cells c.args.line.now c.args.axes.now c.requires.axes,
      c.loop-place-test.true,
    )

pub overflow_cast-place : goal.overflow_cast-place
overflow_cast-place c =
    record {
      fits = omega (
        arith,
        c.requires.cells.count,
        few_cells c.args.line.now c.args.axes.now c.requires.axes,
        c.loop-place-test.true,
      );
    }

pub push_cell-requires-clause-place : goal.push_cell-requires-clause-place
push_cell-requires-clause-place c = omega (arith, c.requires.cells.count, c.loop-place-test.true)

pub push_cell-requires-clause-few : goal.push_cell-requires-clause-few
push_cell-requires-clause-few c =
    let cells = c.args.cells.now in
    let cell = c.requires.cells.each c.loop-place.place c.index-cells-place.result
    (slice_get_read cells (length cells) c.loop-place.place c.index-cells-place.result refl
    c.loop-place-test.true c.index-cells-place.is) in
    omega (
      arith,
      cell.count,
      mul-le-mul c.requires.few c.args.line.now.two_or_three.1,
    )

pub loop-place-preserved : goal.loop-place-preserved
loop-place-preserved c =
    row_more c.args.line.now c.args.scripts.now c.args.axes.now c.args.cells.now c.loop-place.place
    _ c.loop-place.text.items c.push_cell.new.text.items _ c.loop-place-test.true
    c.index-cells-place.is c.in_ok-push_cell.ensures c.loop-place.invariant
