use Rattle.std.proofs.Common.{◌≡◌, sym, subst}
use Rattle.std.specs.Prelude.{◌↔◌, IsTrue}
use Rattle.run_signal.specs.{declared.level.Level.Level, Levels.level_rails}
use Rattle.run_changes.proofs.changes_lemmas.AgreeLaws.{on_told, off_told}
use Rattle.run_changes.proofs.changes.agreeing.at_level.Goals as goal

pub returns-in-On : goal.returns-in-On
returns-in-On g c = λ lane inside.
    let x = g.V.Signal.signal.rails c.args.value lane in
    subst (λ (l : Level). IsTrue x.must ↔ x ≡ level_rails l) (sym c.in-On.is)
    (on_told x (g.met.V.Signal.must_implies_may c.args.value lane inside))

pub returns-in-Off : goal.returns-in-Off
returns-in-Off g c = λ lane inside.
    let x = g.V.Signal.signal.rails c.args.value lane in
    let z = g.V.Signal.signal.rails c.not.result lane in
    subst (λ (l : Level). IsTrue z.must ↔ x ≡ level_rails l) (sym c.in-Off.is)
    (off_told x z (g.met.V.Signal.must_implies_may c.args.value lane inside) (c.not.ensures lane inside))
