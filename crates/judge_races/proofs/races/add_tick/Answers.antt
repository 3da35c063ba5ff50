use Rattle.std.proofs.Common.{sym, ◌∙◌, ap}
use Rattle.judge_races.specs.Races.{lack_of}
use Rattle.judge_races.proofs.RaceLaws.{nothing_more}
use Rattle.judge_races.proofs.races.add_tick.Goals as goal

pub returns-in_default : goal.returns-in_default
returns-in_default c = λ all counts is counted are.
    nothing_more all counts c.args.horizon c.args.place c.args.t c.args.races.now.items
    (ap (λ l. lack_of l c.args.t) is ∙ sym c.most.ensures ∙ c.in_default.is) are
