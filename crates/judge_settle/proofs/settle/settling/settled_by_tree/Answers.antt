use Rattle.std.proofs.Common.{ap, ◌∙◌}
use Rattle.judge_settle.specs.settle.Words.{by_of_nodes}
use Rattle.judge_settle.proofs.settle_lemmas.AnswerLaws.{held_answer, open_answer}
use Rattle.judge_settle.proofs.settle.settling.settled_by_tree.Goals as goal

pub returns-then-tree : goal.returns-then-tree
returns-then-tree c = λ line script k size early there mixed undecided deep many grown.
    record {
      answer = held_answer c.sound_trees_meet.ensures line script k size c.args.tree early there
          c.if-tree.true deep many grown;
      by = c.by_tree-by.ensures ∙ ap by_of_nodes c.deref.ensures.value;
    }

pub returns : goal.returns
returns c = λ line script k size early there mixed undecided deep many grown.
    record {
      answer = open_answer line script k size c.args.tree c.if-tree.false deep many grown mixed
          undecided;
      by = c.by_tree-by.ensures ∙ ap by_of_nodes c.deref.ensures.value;
    }
