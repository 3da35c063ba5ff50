use Rattle.std.proofs.Common.{List, take, subst, sym, arith}
use Rattle.std.proofs.lemmas.List.{take_all}
use Rattle.std.proofs.lemmas.List.Elements.{All-more, All-weaker}
use Rattle.std.specs.List.{All}
use Rattle.draw_run.specs.declared.diagram.rows.Row.{Row}
use Rattle.draw_run.specs.diagram.Windows.{ChangesBelow, IsShown}
use Rattle.draw_run.proofs.diagram_lemmas.WindowLaws.{row_still_shown}
use Rattle.draw_run.proofs.diagram.window.with_rows.Goals as goal

pub loop-row-preserved : goal.loop-row-preserved
loop-row-preserved c =
    let wide = c.with_row-wide.result in
    let before = c.loop-row.wide in
    let xs = c.args.rows.now in
    let i = c.loop-row.row-index in
    record {
      shown =
          All-more (IsShown wide) xs i c.row-item.result (omega arith)
          (All-weaker (IsShown before) (IsShown wide)
          (row_still_shown before wide c.with_row-wide.ensures.wider) (take i xs)
          c.loop-row.invariant.shown)
          (subst (IsShown wide) c.row-item.is c.with_row-wide.ensures.shown);
      below = λ h low all. c.with_row-wide.ensures.below h
          (c.loop-row.invariant.below h low all)
          (subst (ChangesBelow h) (sym c.row-item.is) (all i c.row-item.result (omega arith)));
      wider = (omega arith, omega arith);
    }

pub returns-clause-shown : goal.returns-clause-shown
returns-clause-shown c =
    let xs : List Row = c.args.rows.now in
    subst (λ (rows : List Row). All (IsShown c.loop-row.wide) rows)
    (take_all c.loop-row.row-index xs (omega (arith, c.loop-row-test.false)))
    c.loop-row.invariant.shown
