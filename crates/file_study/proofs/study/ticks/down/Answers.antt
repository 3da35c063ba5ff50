use Rattle.file_study.proofs.study_lemmas.Quotients.{down_is}
use Rattle.file_study.proofs.study.ticks.down.Goals as goal

pub returns : goal.returns
returns c =
    down_is c.args.tick_us c.ticks_down.result c.args.time c.requires.number c.requires.tick
    c.ticks_down.ensures
