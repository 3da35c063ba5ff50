use Rattle.std.proofs.Common.{◌≡◌, Bool, List, Some, sym, subst, arith}
use Rattle.std.proofs.lemmas.Option.{slice_get_within}
use Rattle.std.specs.Prelude.{slice_get}
use Rattle.model_history.specs.ListLaws.{exists_at}
use Rattle.judge_settle.specs.declared.settle.search.Found.{Found}
use Rattle.judge_settle.specs.settle.Leaves.{IsFoundWith}
use Rattle.judge_settle.proofs.settle_lemmas.TreeLaws.{leaf_undecided}
use Rattle.judge_settle.proofs.settle.leaves.confirmed.Goals as goal

pub returns-then-all : goal.returns-then-all
returns-then-all c = λ size view found.
    subst (λ (f : Found). IsFoundWith c.args.compiled.now.line.now c.args.scene.now.script.now
    c.args.scene.now.terminal size view c.args.leaves.now f) c.in-Tree.is found
    (record {
      each = λ i leaf at.
          let (b, there) = exists_at c.in_ok-told-in-Tree.told.items i
          (let inside = slice_get_within c.args.leaves.now i leaf at in
          omega (arith, inside, c.in_ok-told-in-Tree.ensures.count)) in
          (c.in_ok-told-in-Tree.ensures.each i b leaf there at).0
          (c.are_all-all.ensures c.if-all.true i b
          (subst (λ (l : List Bool). slice_get l i ≡ Some b) (sym c.deref.ensures.value) there));
    })

pub returns-in_ok-undecided-in-Tree : goal.returns-in_ok-undecided-in-Tree
returns-in_ok-undecided-in-Tree c = λ size view found.
    leaf_undecided c.args.compiled.now.line.now c.args.scene.now.script.now
    c.args.scene.now.terminal view size c.in_ok-undecided-in-Tree.undecided
    c.in_ok-undecided-in-Tree.ensures.nodes c.in_ok-undecided-in-Tree.ensures.yes
