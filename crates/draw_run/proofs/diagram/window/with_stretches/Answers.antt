use Rattle.std.proofs.Common.{take, arith}
use Rattle.std.proofs.lemmas.List.Elements.{All-more, All-weaker}
use Rattle.run_signal.specs.declared.tern.Tern.TheVariants.{Zero}
use Rattle.draw_run.specs.{declared.diagram.stretch.Stretch.Stretch, diagram.Windows.IsChangeShown}
use Rattle.draw_run.proofs.diagram_lemmas.WindowLaws.{change_still_shown}
use Rattle.draw_run.proofs.diagram.window.with_stretches.Goals as goal

pub loop-stretch-preserved : goal.loop-stretch-preserved
loop-stretch-preserved c =
    let wide = c.with_stretch-wide.result in
    let before = c.loop-stretch.wide in
    let xs = c.args.stretches.now in
    let i = c.loop-stretch.stretch-index in
    let none : Stretch = record { from = 0; to = 0; value = Zero } in
    record {
      shown =
          All-more (IsChangeShown wide) xs i none (omega arith)
          (All-weaker (IsChangeShown before) (IsChangeShown wide)
          (change_still_shown before wide c.with_stretch-wide.ensures.wider) (take i xs)
          c.loop-stretch.invariant.shown)
          c.with_stretch-wide.ensures.shown;
      below = λ h low all. c.with_stretch-wide.ensures.below h
          (c.loop-stretch.invariant.below h low all) (all i none (omega arith));
      wider = (omega arith, omega arith);
    }
