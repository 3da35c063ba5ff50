use Rattle.std.proofs.Common.{◌≡◌, ◌<◌, ◌*◌, ◌/◌, ◌%◌, ◌++◌, ℕ, List, [], ◌∷◌, Option, Some, ap, sym, subst, ◌∙◌}
use Rattle.std.specs.Prelude.{OnOk, decimal}
use Rattle.csv.specs.Writing.{row_text, default_writer}
use Rattle.model_line.specs.{declared.line.Line.Line, declared.script.Script.Script}
use Rattle.judge_margins.specs.{declared.map.axis.Axis.Axis, declared.map.axis.Axes.Axes}
use Rattle.judge_margins.specs.declared.map.cell.Cell.{Cell}
use Rattle.judge_margins.specs.map.Cells.{lost_of, word_of}
use Rattle.judge_margins.specs.map.Axes.{IsAxis, IsSecond, column_count, least_at, rows_of}
use Rattle.judge_margins.specs.map.MapText.{cell_record, obligations_said, record_by, word_said}
use Rattle.judge_margins.specs.map.PlaceLaws.{column_within, row_within}
use Rattle.judge_margins.proofs.map.text.push_cell.Goals as goal

-- a record by its row, its word and what is lost
fields : (line : Line) (scripts : List Script) (axes : Axes) (place rows : ℕ) (cell : Cell)
    (word said : List ℕ) → rows ≡ rows_of axes.y → word ≡ word_said (word_of cell.rules.items)
    → said ≡ obligations_said line scripts (lost_of cell.rules.items)
    → record_by axes.y (least_at axes.x (place / rows)) (place % rows) word said
    ≡ cell_record line scripts axes place cell
fields line scripts axes place rows cell word said many worded lost =
    ap (λ (n : ℕ). record_by axes.y (least_at axes.x (place / n)) (place % n) word said) many
    ∙ ap (λ (t : List ℕ). record_by axes.y (least_at axes.x (place / rows_of axes.y))
    (place % rows_of axes.y) t said) worded
    ∙ ap (λ (t : List ℕ). record_by axes.y (least_at axes.x (place / rows_of axes.y))
    (place % rows_of axes.y) (word_said (word_of cell.rules.items)) t) lost

-- a record with a second axis, and one without, by their fields
record_of_two : (line : Line) (scripts : List Script) (axes : Axes) (y : Axis) (place rows : ℕ)
    (cell : Cell) (first second word said : List ℕ) → axes.y ≡ Some y → rows ≡ rows_of axes.y
    → first ≡ decimal (least_at axes.x (place / rows)) → second ≡ decimal (least_at y (place % rows))
    → word ≡ word_said (word_of cell.rules.items)
    → said ≡ obligations_said line scripts (lost_of cell.rules.items)
    → first ∷ second ∷ word ∷ said ∷ [] ≡ cell_record line scripts axes place cell
record_of_two line scripts axes y place rows cell first second word said is many x row worded lost =
    ap (λ (t : List ℕ). t ∷ second ∷ word ∷ said ∷ []) x
    ∙ ap (λ (t : List ℕ). decimal (least_at axes.x (place / rows)) ∷ t ∷ word ∷ said ∷ []) row
    ∙ sym (ap (λ (o : Option Axis).
    record_by o (least_at axes.x (place / rows)) (place % rows) word said) is)
    ∙ fields line scripts axes place rows cell word said many worded lost

pub least-least-requires : goal.least-least-requires
least-least-requires c =
    let axes = c.args.axes.now in
    record {
      step = c.requires.axes.x.step;
      ordered = c.requires.axes.x.ordered;
      limit = c.requires.axes.x.limit;
      place = column_within axes c.args.place c.rows-rows.result c.rows-rows.ensures.count
          c.rows-rows.ensures.some
          (subst (λ (n : ℕ). c.args.place < column_count axes * n) (sym c.rows-rows.ensures.count)
          c.requires.place);
    }

pub least-requires : goal.least-requires
least-requires c =
    let rows = c.rows-rows.result in
    let axis : IsAxis c.args.line.now c.in-Some.y =
    subst (IsSecond c.args.line.now) c.in-Some.is c.requires.axes.y in
    record {
      step = axis.step;
      ordered = axis.ordered;
      limit = axis.limit;
      place = subst (λ (n : ℕ). c.args.place % rows < n)
          (c.rows-rows.ensures.count ∙ ap rows_of c.in-Some.is)
          (row_within c.args.place rows c.rows-rows.ensures.some);
    }

pub returns-in-Some : goal.returns-in-Some
returns-in-Some c =
    let line = c.args.line.now in
    let scripts = c.args.scripts.now in
    let cell = c.args.cell.now in
    subst (λ (said : List (List ℕ)). OnOk c.push_record.result
    (c.push_record.new.text.items ≡ c.args.text.now.items ++ row_text default_writer said))
    (record_of_two line scripts c.args.axes.now c.in-Some.y c.args.place c.rows-rows.result cell
    c.as_bytes-x.result.now c.as_bytes-second.result.now c.word_of-word.result.now
    c.as_slice-in-Some.result.now c.in-Some.is c.rows-rows.ensures.count
    (c.as_bytes-x.ensures.value ∙ c.format.ensures.text ∙ ap decimal c.least-least.ensures.least)
    (c.as_bytes-second.ensures.value ∙ c.format-in-Some.ensures.text
    ∙ ap decimal c.least.ensures.least)
    (c.word_of-word.ensures ∙ ap word_said c.word.ensures)
    (c.as_slice-in-Some.ensures.value ∙ c.in_ok-said.ensures
    ∙ ap (obligations_said line scripts) (c.as_slice.ensures.value ∙ c.in_ok-lost.ensures)))
    c.push_record.ensures
