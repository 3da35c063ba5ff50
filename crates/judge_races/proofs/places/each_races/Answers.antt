use Rattle.std.proofs.Common.{List, false, length, sym, subst, arith}
use Rattle.std.specs.Prelude.{get_or}
use Rattle.model_history.specs.ListLaws.{at_index}
use Rattle.model_logic.specs.Tree.{Tree, Const}
use Rattle.model_logic.specs.Logic.{set_tree}
use Rattle.net_gates.specs.declared.gate.GateId.{GateId}
use Rattle.judge_verdict.specs.verdict.OneEachLaws.{one_more, all_there}
use Rattle.net_gates.specs.Formulas.{trees_of}
use Rattle.judge_races.specs.Gates.{AreIn}
use Rattle.judge_races.specs.Operands.{alternatives, operands}
use Rattle.judge_races.specs.Lasting.{AreRacesOver}
use Rattle.judge_races.proofs.places.each_races.Goals as goal

pub races_of-requires-clause-exist : goal.races_of-requires-clause-exist
races_of-requires-clause-exist c =
    let gates = c.args.compiled.now.net.now.gates in
    let ids = c.index-conjunctions-i.result in
    let stand = c.requires.gates.each c.loop-i.i ids
    (at_index c.args.conjunctions.now c.loop-i.i ids c.loop-i-test.true c.index-conjunctions-i.is) in
    let P : List GateId → Type 0 = AreIn gates in
    subst P (sym c.deref.ensures.value) stand.there

pub loop-i-preserved : goal.loop-i-preserved
loop-i-preserved c = λ scripts are.
    let line = c.args.compiled.now.line.now in
    let gates = c.args.compiled.now.net.now.gates in
    let trees : List Tree = alternatives (set_tree line c.args.k) in
    let ids = c.index-conjunctions-i.result in
    let stand = c.requires.gates.each c.loop-i.i ids
    (at_index c.args.conjunctions.now c.loop-i.i ids c.loop-i-test.true c.index-conjunctions-i.is) in
    let P : List GateId → Type 0 = λ l.
    AreRacesOver line scripts c.args.trips.now (trees_of gates l) (length scripts) c.in_ok-found.found.items in
    let Q : List Tree → Type 0 = λ l.
    AreRacesOver line scripts c.args.trips.now l (length scripts) c.in_ok-found.found.items in
    one_more (λ i races. AreRacesOver line scripts c.args.trips.now
    (operands (get_or trees i (Const false))) (length scripts) races.items) c.loop-i.i
    c.loop-i.races.items c.push.new.self.items c.in_ok-found.found c.in_ok-push.ensures.items
    (subst Q stand.same (subst P c.deref.ensures.value (c.in_ok-found.ensures scripts are)))
    (c.loop-i.invariant scripts are)

pub returns : goal.returns
returns c = λ scripts are.
    let line = c.args.compiled.now.line.now in
    let trees : List Tree = alternatives (set_tree line c.args.k) in
    all_there (λ i races. AreRacesOver line scripts c.args.trips.now
    (operands (get_or trees i (Const false))) (length scripts) races.items) c.loop-i.i _
    c.loop-i.races.items
    (omega (arith, c.loop-i-test.false, c.loop-i.auto.i-end, c.requires.gates.count))
    (c.loop-i.invariant scripts are)
