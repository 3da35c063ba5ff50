use Rattle.file_study.specs.times.RoundedLaws.{rounded_down}
use Rattle.file_study.proofs.times.fraction.Fraction.ticks_down.Goals as goal

pub returns : goal.returns
returns c =
    rw c.from.ensures (rounded_down c.args.self c.args.tick_us c.requires.number c.requires.tick)
