use Rattle.std.proofs.Common.{◌∙◌, ap}
use Rattle.run_signal.proofs.SealLaws.{seal_of_standing}
use Rattle.run_signal.proofs.seal.SealCell.tick.Goals as goal

pub returns-clause-sealed : goal.returns-clause-sealed
returns-clause-sealed g c = λ lane sets holds inside h.
    ap (λ v. g.V.Signal.signal.rails v lane) c.self.view_is
    ∙ seal_of_standing sets holds (g.V.Signal.signal.rails c.args.set lane)
    (g.V.Signal.signal.rails c.args.hold lane) (g.V.Signal.signal.rails c.skip.new.self lane)
    (c.skip.ensures lane sets holds inside h)
