use Rattle.std.proofs.Common.{◌≡◌, ℕ, ◌<◌, Some, sym, subst, arith, ⊎_elim}
use Rattle.std.proofs.lemmas.Option.{slice_get_read}
use Rattle.std.specs.Prelude.{slice_get}
use Rattle.model_line.specs.Parameters.{channel_count}
use Rattle.run_step.specs.Inputs.{DelayStands}
use Rattle.run_step.specs.{GivenLaws.span_set, LoopLaws.first_all}
use Rattle.model_history.specs.ListLaws.{at_set}
use Rattle.run_step.proofs.delays.set_delays.Goals as goal

pub loop-channel-init : goal.loop-channel-init
loop-channel-init g c = record {
  are = c.requires.delays;
  stand = c.requires.stand;
  set = λ j y lt. absurd (omega arith);
}

pub set_delay-requires-clause-exists : goal.set_delay-requires-clause-exists
set_delay-requires-clause-exists g c =
    let delays = c.loop-channel.delays.items in
    let at : slice_get delays c.loop-channel.channel ≡ Some c.index_mut.result.now =
    slice_get_read delays (channel_count c.args.run.now.compiled.now.line.now)
    c.loop-channel.channel
    c.index_mut.result.now (sym c.loop-channel.invariant.are.count)
    (omega (arith, c.loop-channel-test.true, c.len-channel-end.ensures, c.requires.delays.count))
    c.index_mut.ensures.value in
    subst (λ (n : ℕ). c.index_mut.result.now.param < n) (sym c.requires.can.one_each)
    (c.loop-channel.invariant.are.there c.loop-channel.channel c.index_mut.result.now at)

pub set_delay-requires-clause-stands : goal.set_delay-requires-clause-stands
set_delay-requires-clause-stands g c =
    let delays = c.loop-channel.delays.items in
    let at : slice_get delays c.loop-channel.channel ≡ Some c.index_mut.result.now =
    slice_get_read delays (channel_count c.args.run.now.compiled.now.line.now)
    c.loop-channel.channel
    c.index_mut.result.now (sym c.loop-channel.invariant.are.count)
    (omega (arith, c.loop-channel-test.true, c.len-channel-end.ensures, c.requires.delays.count))
    c.index_mut.ensures.value in
    c.loop-channel.invariant.stand c.loop-channel.channel c.index_mut.result.now at

pub loop-channel-preserved : goal.loop-channel-preserved
loop-channel-preserved g c =
    let i = c.loop-channel.channel in
    let old = c.index_mut.result.now in
    let new = c.set_delay.new.delay in
    let delays = c.loop-channel.delays.items in
    let at : slice_get delays i ≡ Some old =
    slice_get_read delays (channel_count c.args.run.now.compiled.now.line.now) i old
    (sym c.loop-channel.invariant.are.count)
    (omega (arith, c.loop-channel-test.true, c.len-channel-end.ensures, c.requires.delays.count))
    c.index_mut.ensures.value in
    record {
      are = span_set c.args.run.now.compiled.now.line.now delays i old new at
          c.set_delay.ensures.from
          c.set_delay.ensures.param c.loop-channel.invariant.are;
      stand = λ j d there.
          ⊎_elim
          (λ p. subst (λ k. DelayStands g.V.Signal.signal c.args.run.now
          c.args.t k) p.1 c.set_delay.ensures.stands)
          (λ p. c.loop-channel.invariant.stand j d p.1)
          (at_set delays i new j d there);
      set = λ j d lt there.
          ⊎_elim
          (λ p. subst (λ k. c.args.t < k.until) p.1 c.set_delay.ensures.set)
          (λ p. let ne = p.0 in c.loop-channel.invariant.set j d (omega (arith, lt, ne)) p.1)
          (at_set delays i new j d there);
    }

pub returns-clause-set : goal.returns-clause-set
returns-clause-set g c =
    let are = c.loop-channel.invariant.are in
    first_all (λ d. c.args.t < d.until) c.loop-channel.delays.items c.loop-channel.channel
    (omega (
      arith,
      c.loop-channel-test.false,
      c.len-channel-end.ensures,
      c.requires.delays.count,
      are.count,
    ))
    c.loop-channel.invariant.set
