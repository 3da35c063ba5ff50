use Rattle.std.proofs.Common.{◌∙◌}
use Rattle.file_study.proofs.sweeps_lemmas.Sweeping.{counted_first, counted_step, times}
use Rattle.file_study.proofs.sweeps.sweep.count.Goals as goal

pub loop-stage-init : goal.loop-stage-init
loop-stage-init c =
    let first = rw c.deref.ensures.value at c.with_time.ensures.is in
    let second = rw c.deref-2.ensures.value at c.with_time-count.ensures.is in
    record {
      counted =
          counted_first c.with_time.result c.with_time-count.result
          c.args.fault.now.start.items c.args.fault.now.trip_within.items
          (times c.args.fault.now.stages.items) first second;
      few = c.with_time-count.ensures.few;
    }

pub loop-stage-preserved : goal.loop-stage-preserved
loop-stage-preserved c =
    let next = rw c.deref-in-loop-stage.ensures.value
    at c.with_time-count-in-loop-stage.ensures.is in
    let within = rw c.deref-stage-items.ensures.value at c.loop-stage-test.true in
    let stage = rw c.deref-stage-items.ensures.value at c.stage-item.is in
    record {
      counted =
          counted_step c.loop-stage.count c.with_time-count-in-loop-stage.result
          c.args.fault.now.stages.items c.loop-stage.stage-index c.stage-item.result
          within stage next
          ∙ c.loop-stage.invariant.counted;
      few = c.with_time-count-in-loop-stage.ensures.few;
    }
