use Rattle.std.proofs.Common.{◌≡◌, ℕ, List, false, ◌∙◌, ◌++◌, ap, subst, arith}
use Rattle.std.specs.Prelude.{get_or}
use Rattle.model_logic.specs.Tree.{Tree, Const}
use Rattle.model_logic.specs.Logic.{set_tree}
use Rattle.net_gates.specs.declared.gate.{Gate.Gate, GateId.GateId}
use Rattle.net_gates.specs.Formulas.{formula_of}
use Rattle.judge_verdict.specs.verdict.OneEachLaws.{one_more}
use Rattle.net_gates.specs.Formulas.{trees_of}
use Rattle.judge_races.specs.Gates.{StandFor}
use Rattle.judge_races.specs.Operands.{alternatives, operands}
use Rattle.judge_races.proofs.WaveLaws.{tree_there}
use Rattle.judge_races.proofs.operands.conjunctions.Goals as goal

pub loop-i-preserved : goal.loop-i-preserved
loop-i-preserved c =
    let gates : List Gate = c.args.compiled.now.net.now.gates in
    let each : List GateId = c.push_alternatives.new.ids.items in
    let trees : List Tree = alternatives (set_tree c.args.compiled.now.line.now c.args.k) in
    let i : ℕ = c.loop-i.i in
    let same : trees_of gates each ≡ trees =
    c.in_ok-push_alternatives.ensures.trees
    ∙ ap (λ (l : List GateId). trees_of gates l ++ alternatives (formula_of gates c.set_gate-set.result.0)) c.new-each.ensures.items
    ∙ ap alternatives c.set_gate-set.ensures.is in
    let P : Tree → Type 0 = λ x. StandFor gates c.in_ok-ids.ids.items (operands x) in
    one_more (λ j ids. StandFor gates ids.items (operands (get_or trees j (Const false)))) i
    c.loop-i.all.items c.push.new.self.items c.in_ok-ids.ids c.in_ok-push.ensures.items
    (subst P (tree_there gates each trees i c.index.result.now same
    (omega (arith, c.loop-i-test.true, c.len-i-end.ensures)) c.index.ensures)
    c.in_ok-ids.ensures) c.loop-i.invariant
