use Rattle.std.proofs.Common.{◌≤◌, arith}
use Rattle.run_step.specs.Quiet.{SpanKeeps}
use Rattle.run_step.specs.{LoopLaws.first_read, LoopLaws.first_all, InputLaws.span_fewer}
use Rattle.run_step.proofs.shown.all_stay.Goals as goal

pub loop-span-preserved : goal.loop-span-preserved
loop-span-preserved c =
    let t = c.args.t in
    let n = c.lesser-stays.result in
    let less = c.lesser-stays.ensures in
    let first : n ≤ c.loop-span.stays = less.first in
    let limit : c.loop-span.stays ≤ 4000 = c.loop-span.invariant.limited in
    record {
      some = less.some c.loop-span.invariant.some c.span_stays.ensures.some;
      limited = omega arith;
      keep = first_read (SpanKeeps t n) c.args.spans.now c.loop-span.span-index _
          c.loop-span-test.true
          (λ j y lt at. span_fewer y t n c.loop-span.stays first (c.loop-span.invariant.keep j y lt at))
          (span_fewer _ t n c.span_stays.result less.second c.span_stays.ensures.keeps);
    }

pub returns-clause-keep : goal.returns-clause-keep
returns-clause-keep c =
    first_all (SpanKeeps c.args.t c.loop-span.stays) c.args.spans.now c.loop-span.span-index
    c.loop-span-test.false c.loop-span.invariant.keep
