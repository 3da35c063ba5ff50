use Rattle.std.proofs.Common.{take, arith}
use Rattle.std.proofs.lemmas.List.Elements.{All-more}
use Rattle.draw_run.specs.diagram.Windows.{IsInWindow}
use Rattle.draw_run.proofs.diagram_lemmas.WindowLaws.{marks_still_shown}
use Rattle.draw_run.proofs.diagram.window.with_marks.Goals as goal

pub loop-mark-preserved : goal.loop-mark-preserved
loop-mark-preserved c =
    let wide = c.widened-wide.result in
    let before = c.loop-mark.wide in
    let xs = c.args.marks.now in
    let i = c.loop-mark.mark-index in
    record {
      shown =
          All-more (IsInWindow wide) xs i 0 (omega arith)
          (marks_still_shown before wide c.widened-wide.ensures.wider (take i xs)
          c.loop-mark.invariant.shown)
          c.widened-wide.ensures.holds;
      below = λ h low all. c.widened-wide.ensures.below h
          (c.loop-mark.invariant.below h low all) (all i 0 (omega arith));
      wider = (omega arith, omega arith);
    }
