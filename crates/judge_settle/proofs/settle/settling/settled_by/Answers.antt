use Rattle.std.proofs.Common.{[], subst}
use Rattle.model_logic.specs.Choice.{declared_box}
use Rattle.judge_settle.specs.declared.settle.search.Found.{Found}
use Rattle.judge_settle.specs.settle.Trees.{IsFound, IsGrownOver}
use Rattle.judge_settle.proofs.settle.settling.settled_by.Goals as goal

pub returns-in-Fails : goal.returns-in-Fails
returns-in-Fails c = λ line script k size view early there mixed undecided every views deep many found.
    record {
      answer = record {
        failing = subst (λ (f : Found). IsFound line script k size view f) c.in-Fails.is found;
        choices = every;
      };
      by = mixed;
    }

pub returns-in-Tree : goal.returns-in-Tree
returns-in-Tree c = λ line script k size view early there mixed undecided every views deep many found.
    let over : IsGrownOver line script k size view c.in-Tree.tree =
    subst (λ (f : Found). IsFound line script k size view f) c.in-Tree.is found in
    c.settled_by_tree.ensures line script k size early there mixed undecided deep many
    (over (declared_box line) [] views)
