use Rattle.std.proofs.Common.{◌≡◌, ◌-◌, ℕ, suc, subst, arith, ap, length}
use Rattle.judge_verdict.specs.declared.verdict.verdict.Verdict.{Verdict}
use Rattle.model_line.specs.{declared.line.Line.Line, declared.script.Script.Script}
use Rattle.judge_split.specs.Search.{Found, Fails, IsVerdictOf, IsSplitAt, IsSearch, no}
use Rattle.judge_split.specs.Search.{first_fails, second_fails}
use Rattle.judge_split.specs.declared.node.Outcome.{Outcome}
use Rattle.judge_split.specs.Found.{AreNodes, IsFound}
use Rattle.judge_split.proofs.ListLaws.{if_some_is}
use Rattle.judge_split.proofs.NodeLaws.{yes_nodes, narrow_nodes, deepest_nodes, split_nodes, joined}
use Rattle.judge_split.proofs.searching.+search_part.Goals as goal

-- a search to a depth that is not 0
at_depth : (script : Script) (k n : ℕ) (line : Line) (found : Found) → (n ≡ 0 → ⊥)
    → IsSearch script k (suc (n - 1)) line found → IsSearch script k n line found
at_depth script k n line found some is =
    let e : suc (n - 1) ≡ n = omega arith in
    subst (λ (m : ℕ). IsSearch script k m line found) e is

pub verdict_at-requires-clause-fits : goal.verdict_at-requires-clause-fits
verdict_at-requires-clause-fits t c = c.requires.fits

pub quick-requires-clause-fits : goal.quick-requires-clause-fits
quick-requires-clause-fits t c = c.requires.fits

pub quick-requires-clause-undecided : goal.quick-requires-clause-undecided
quick-requires-clause-undecided t c =
    subst (λ (v : Verdict). IsVerdictOf c.args.compiled.now.line.now c.args.script.now
    c.args.terminal v)
    c.in-Undecided.is c.in_ok-verdict_at.ensures

pub quick-requires-clause-widest : goal.quick-requires-clause-widest
quick-requires-clause-widest t c = c.in-Some.ensures

pub returns-in-Some-2 : goal.returns-in-Some-2
returns-in-Some-2 t c =
    if_some_is c.in_ok-nodes.field-0 c.in-Some-2.nodes
    (λ nodes. AreNodes c.args.compiled.now.line.now c.args.script.now c.args.terminal c.args.depth
    nodes.items)
    c.in-Some-2.is c.in_ok-nodes.ensures

pub halves-requires : goal.halves-requires
halves-requires t c = c.in-Some.ensures

pub search_part-requires : goal.search_part-requires
search_part-requires t c =
    let rest = c.in_ok-lower_line.ensures.0.rest in (
      omega (arith, c.decreases, c.if-depth-eq0.false),
      (
        c.scripts_fit_whatever_the_intervals.ensures c.args.compiled.now.line.now _
            c.args.script.now rest
            c.requires.fits,
        omega (arith, c.requires.terminal, ap length rest.terminals),
      ),
    )

pub search_part-requires-2 : goal.search_part-requires-2
search_part-requires-2 t c =
    let rest = c.in_ok-lower_line.ensures.1.rest in (
      omega (arith, c.decreases, c.if-depth-eq0.false),
      (
        c.scripts_fit_whatever_the_intervals.ensures c.args.compiled.now.line.now _
            c.args.script.now rest
            c.requires.fits,
        omega (arith, c.requires.terminal, ap length rest.terminals),
      ),
    )

pub middle-mid-requires : goal.middle-mid-requires
middle-mid-requires t c = c.in-Some.ensures.exists

pub returns-in-Yes : goal.returns-in-Yes
returns-in-Yes t c =
    let line = c.args.compiled.now.line.now in
    let script = c.args.script.now in
    let k = c.args.terminal in
    yes_nodes script k c.args.depth line _ c.in_ok-leaf-in-Yes.ensures
    (subst (λ (v : Verdict). IsVerdictOf line script k v) c.in-Yes.is c.in_ok-verdict_at.ensures)

pub returns-in-No : goal.returns-in-No
returns-in-No t c =
    let line = c.args.compiled.now.line.now in
    let script = c.args.script.now in
    no c.args.depth line c.in-No.timing
    (subst (λ (v : Verdict). IsVerdictOf line script c.args.terminal v) c.in-No.is
    c.in_ok-verdict_at.ensures)

pub returns-in_default : goal.returns-in_default
returns-in_default t c =
    let line = c.args.compiled.now.line.now in
    let script = c.args.script.now in
    let k = c.args.terminal in
    narrow_nodes script k c.args.depth line _ c.in_ok-leaf.ensures
    (subst (λ (v : Verdict). IsVerdictOf line script k v) c.in-Undecided.is c.in_ok-verdict_at.ensures)
    c.in_default.ensures

pub returns-then-depth-eq0 : goal.returns-then-depth-eq0
returns-then-depth-eq0 t c =
    let line = c.args.compiled.now.line.now in
    let script = c.args.script.now in
    let k = c.args.terminal in
    deepest_nodes script k c.args.depth line _ c.in_ok-leaf-2.ensures c.if-depth-eq0.true
    (subst (λ (v : Verdict). IsVerdictOf line script k v) c.in-Undecided.is c.in_ok-verdict_at.ensures)

pub returns-in-Fails : goal.returns-in-Fails
returns-in-Fails t c =
    let line = c.args.compiled.now.line.now in
    let script = c.args.script.now in
    let k = c.args.terminal in
    let at : IsSplitAt line script k c.in-Some.param = record {
      undecided = subst (λ (v : Verdict). IsVerdictOf line script k v) c.in-Undecided.is
          c.in_ok-verdict_at.ensures;
      widest = c.in-Some.ensures;
    } in
    at_depth script k c.args.depth line (Fails c.in-Fails.timing) c.if-depth-eq0.false
    (first_fails (c.args.depth - 1) line c.in-Some.param c.in_ok-lower_line.lower_line
    c.in-Fails.timing at c.in_ok-lower_line.ensures.0
    (subst (λ (o : Outcome). IsFound c.in_ok-lower_line.lower_line script k (c.args.depth - 1) o)
    c.in-Fails.is c.in_ok-nodes-2.ensures))

pub returns-in-Fails-2 : goal.returns-in-Fails-2
returns-in-Fails-2 t c =
    let line = c.args.compiled.now.line.now in
    let script = c.args.script.now in
    let k = c.args.terminal in
    let at : IsSplitAt line script k c.in-Some.param = record {
      undecided = subst (λ (v : Verdict). IsVerdictOf line script k v) c.in-Undecided.is
          c.in_ok-verdict_at.ensures;
      widest = c.in-Some.ensures;
    } in
    let below : AreNodes c.in_ok-lower_line.lower_line script k (c.args.depth - 1)
    c.in-Tree.nodes.items =
    subst (λ (o : Outcome). IsFound c.in_ok-lower_line.lower_line script k (c.args.depth - 1) o)
    c.in-Tree.is c.in_ok-nodes-2.ensures in
    at_depth script k c.args.depth line (Fails c.in-Fails-2.timing) c.if-depth-eq0.false
    (second_fails (c.args.depth - 1) line c.in-Some.param c.in_ok-lower_line.lower_line
    c.in_ok-lower_line.upper_line below.tree c.in-Fails-2.timing at c.in_ok-lower_line.ensures.0
    below.found c.in_ok-lower_line.ensures.1
    (subst (λ (o : Outcome). IsFound c.in_ok-lower_line.upper_line script k (c.args.depth - 1) o)
    c.in-Fails-2.is c.in_ok-nodes-3.ensures))

pub returns : goal.returns
returns t c =
    let line = c.args.compiled.now.line.now in
    let script = c.args.script.now in
    let k = c.args.terminal in
    let param = c.in-Some.param in
    let first = c.in_ok-lower_line.lower_line in
    let second = c.in_ok-lower_line.upper_line in
    let at : IsSplitAt line script k param = record {
      undecided = subst (λ (v : Verdict). IsVerdictOf line script k v) c.in-Undecided.is
          c.in_ok-verdict_at.ensures;
      widest = c.in-Some.ensures;
    } in
    let below : AreNodes first script k (c.args.depth - 1) c.in-Tree.nodes.items =
    subst (λ (o : Outcome). IsFound first script k (c.args.depth - 1) o) c.in-Tree.is
    c.in_ok-nodes-2.ensures in
    let above : AreNodes second script k (c.args.depth - 1) c.in-Tree-2.nodes.items =
    subst (λ (o : Outcome). IsFound second script k (c.args.depth - 1) o) c.in-Tree-2.is
    c.in_ok-nodes-3.ensures in
    split_nodes script k c.args.depth line _ param c.middle-mid.result first second
    c.in-Tree.nodes.items c.in-Tree-2.nodes.items
    (joined param c.middle-mid.result _ c.in-Tree.nodes.items c.in-Tree-2.nodes.items
    c.deref.result.now c.deref-2.result.now c.in_ok-nodes-4.ensures c.deref.ensures.value
    c.deref-2.ensures.value)
    c.middle-mid.ensures.number c.if-depth-eq0.false at c.in_ok-lower_line.ensures.0
    c.in_ok-lower_line.ensures.1 below above
