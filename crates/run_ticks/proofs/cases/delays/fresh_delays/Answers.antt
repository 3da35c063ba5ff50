use Rattle.std.proofs.Common.{◌≡◌, length, length-append, Some, refl, sym, ◌∙◌, ap, arith}
use Rattle.std.proofs.lemmas.Grind.{common_steps}
use Rattle.std.proofs.lemmas.Option.{slice_get_read}
use Rattle.std.specs.Prelude.{slice_get}
use Rattle.model_line.specs.Parameters.{delay_param}
use Rattle.model_line.specs.Channels.{from_of}
use Rattle.run_ticks.specs.declared.cases.delays.Delay.{Delay}
use Rattle.run_ticks.proofs.cases_lemmas.DelayLaws.{delays_more}
use Rattle.run_ticks.proofs.cases.delays.fresh_delays.Goals as goal

pub loop-channel-preserved : goal.loop-channel-preserved
loop-channel-preserved g c =
    let line = c.args.line.now in
    let old = c.loop-channel.delays.items in
    let new = c.push.new.self.items in
    let n = c.loop-channel.channel in
    let before = c.loop-channel.invariant in
    let d : Delay _ = record { from = c.index.result.now.from; span = c.index-spans-param.result } in
    let pushed = c.in_ok-push.ensures.items in
    let param : c.delay_of-param.result ≡ delay_param line n = c.delay_of-param.ensures.number in
    let read : slice_get c.args.spans.now c.delay_of-param.result ≡ Some d.span =
    slice_get_read c.args.spans.now (length c.args.spans.now) c.delay_of-param.result d.span refl
    (omega arith) c.index-spans-param.is in
    let here : slice_get c.args.spans.now (delay_param line n) ≡ Some d.span =
    ap (λ i. slice_get c.args.spans.now i) (sym param) ∙ read in
    record {
      count = omega (arith, before.count, simp length-append at (ap length pushed));
      from = delays_more (λ j e. e.from ≡ from_of line.channels.items j) old new n d pushed before.count
          before.from (grind (arith, common_steps));
      span = delays_more (λ j e. slice_get c.args.spans.now (delay_param line j) ≡ Some e.span) old new
          n d pushed before.count before.span here;
    }
