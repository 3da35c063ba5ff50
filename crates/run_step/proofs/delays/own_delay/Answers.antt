use Rattle.std.proofs.Common.{length, refl, sym}
use Rattle.std.proofs.lemmas.Option.{slice_get_read}
use Rattle.run_step.specs.GivenLaws.{sender}
use Rattle.run_step.proofs.delays.own_delay.Goals as goal

pub returns-clause-from : goal.returns-clause-from
returns-clause-from g c =
    let channels = c.args.line.now.channels.items in
    sym (sender c.args.line.now c.args.channel c.index.result.now
    (slice_get_read channels (length channels) c.args.channel c.index.result.now refl
    c.requires.channel c.index.ensures))

pub returns-clause-param : goal.returns-clause-param
returns-clause-param g c = c.delay_of-param.ensures.number

pub returns-clause-there : goal.returns-clause-there
returns-clause-there g c = c.delay_of-param.ensures.within
