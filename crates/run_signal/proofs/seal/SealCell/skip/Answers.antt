use Rattle.std.proofs.Common.{◌∙◌, ap}
use Rattle.model_history.specs.Rails.{rails_or, rails_and}
use Rattle.run_signal.proofs.SealLaws.{seal_skipped}
use Rattle.run_signal.proofs.seal.SealCell.skip.Goals as goal

pub returns : goal.returns
returns g c = λ lane sets holds inside h.
    seal_skipped c.history_laws.ensures sets holds (g.V.Signal.signal.rails c.args.set lane)
    (g.V.Signal.signal.rails c.args.hold lane)
    (g.V.Signal.signal.rails c.args.self.now lane)
    (g.V.Signal.signal.rails c.next-self-inside.result lane) c.args.count h
    (c.next-self-inside.ensures lane inside ∙ ap
    (λ v. rails_or (g.V.Signal.signal.rails c.args.set lane)
    (rails_and (g.V.Signal.signal.rails c.args.hold lane) (g.V.Signal.signal.rails v lane)))
    c.self.view_is)
    c.requires.some
