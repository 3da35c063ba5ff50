use Rattle.std.proofs.Common.{ℕ, List, sym, subst, MatchResult}
use Rattle.base_memory.specs.Gives.{OfFault}
use Rattle.judge_split.specs.declared.node.Node.{Node}
use Rattle.cert_split.specs.{declared.text.claim.SplitClaim.SplitClaim, text.Reading.result_in}
use Rattle.cert_split.specs.check.FirstLeaf.{IsTreeHeld}
use Rattle.cert_split.specs.check.Results.{IsSupported, IsFaultOf, IsTreeFault}
use Rattle.cert_split.proofs.check.result.check_result.Goals as goal

pub returns-in-Tree : goal.returns-in-Tree
returns-in-Tree c =
    let line = c.args.compiled.now.line.now in
    let script = c.args.script.now in
    let k : ℕ = c.args.terminal in
    subst (λ (x : SplitClaim). MatchResult c.check_tree.result
    (λ _. IsSupported line script k (result_in x))
    (OfFault (IsFaultOf line script k (result_in x)))) (sym c.in-Tree.is)
    (subst (λ (l : List Node). MatchResult c.check_tree.result (λ _. IsTreeHeld line script k l)
    (OfFault (IsTreeFault line script k l))) c.as_slice.ensures.value c.check_tree.ensures)
