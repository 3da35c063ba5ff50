use Rattle.std.proofs.Common.{◌≡◌, ℕ, List, length, sym, subst, arith}
use Rattle.std.proofs.lemmas.Option.{slice_get-get_or}
use Rattle.model_history.specs.ListLaws.{at_index, exists_at}
use Rattle.run_signal.specs.declared.tern.Tern.{Tern}
use Rattle.net_gates.specs.Formulas.{trees_of}
use Rattle.judge_races.specs.Lasting.{AreHistoryWaves, AreRacesOver}
use Rattle.judge_races.specs.declared.races.Race.{Race}
use Rattle.judge_races.proofs.PlaceLaws.{none_over}
use Rattle.judge_races.proofs.places.races_of.Goals as goal

pub loop-p-init : goal.loop-p-init
loop-p-init c = λ scripts are.
    let line = c.args.compiled.now.line.now in
    let trees = trees_of c.args.compiled.now.net.now.gates c.args.ids.now in
    let P : List Race → Type 0 = AreRacesOver line scripts c.args.trips.now trees 0 in
    subst P (sym c.new-races.ensures.items) (none_over line scripts c.args.trips.now trees)

pub loop-p-preserved : goal.loop-p-preserved
loop-p-preserved c = λ scripts are.
    let line = c.args.compiled.now.line.now in
    let gates = c.args.compiled.now.net.now.gates in
    let p : ℕ = c.loop-p.p in
    let one = exists_at scripts p (omega (arith, c.loop-p-test.true, are.count)) in
    let waves = c.index-all-p.result in
    let P : List (List Tern) → Type 0 = AreHistoryWaves line one.0 gates in
    c.in_ok-add_script.ensures scripts one.0 c.args.trips.now one.1
    (slice_get-get_or c.args.trips.now p _ (omega (arith, c.loop-p-test.true, c.requires.many)))
    (subst P (sym c.deref.ensures.value)
    (are.each p waves (at_index c.args.all.now p waves c.loop-p-test.true c.index-all-p.is) one.0 one.1))
    (c.loop-p.invariant scripts are)

pub returns : goal.returns
returns c = λ scripts are.
    let line = c.args.compiled.now.line.now in
    let trees = trees_of c.args.compiled.now.net.now.gates c.args.ids.now in
    let P : ℕ → Type 0 = λ n. AreRacesOver line scripts c.args.trips.now trees n c.loop-p.races.items in
    let done : c.loop-p.p ≡ length scripts =
    omega (arith, c.loop-p-test.false, c.loop-p.auto.p-end, are.count) in
    subst P done (c.loop-p.invariant scripts are)
