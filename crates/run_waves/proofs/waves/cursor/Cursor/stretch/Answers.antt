use Rattle.run_waves.proofs.{waves_lemmas.RunLaws.run_inside, waves_lemmas.RunLaws.run_level, waves_lemmas.WaveLaws.rails_in}
use Rattle.run_waves.proofs.waves.cursor.Cursor.stretch.Goals as goal

pub returns-clause-inside : goal.returns-clause-inside
returns-clause-inside c =
    run_inside c.self.inside.stretches.now c.args.self.now c.self.invariant.apart c.self.view_is
    c.args.t c.place_near-self-inside.result _ c.place_near-self-inside.ensures

pub returns-clause-level : goal.returns-clause-level
returns-clause-level c =
    run_level c.self.inside.stretches.now c.args.self.now c.self.invariant.apart c.self.view_is
    c.args.t c.place_near-self-inside.result _ c.place_near-self-inside.ensures

pub returns-clause-rails : goal.returns-clause-rails
returns-clause-rails c = λ k low high.
    rails_in c.args.self.now _ c.args.t _ k
    (run_level c.self.inside.stretches.now c.args.self.now c.self.invariant.apart c.self.view_is
    c.args.t c.place_near-self-inside.result _ c.place_near-self-inside.ensures) low high
