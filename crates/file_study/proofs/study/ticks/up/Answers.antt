use Rattle.file_study.proofs.study_lemmas.Quotients.{up_is}
use Rattle.file_study.proofs.study.ticks.up.Goals as goal

pub returns : goal.returns
returns c =
    up_is c.args.tick_us c.ticks_up.result c.args.time c.requires.number c.requires.tick
    c.ticks_up.ensures
