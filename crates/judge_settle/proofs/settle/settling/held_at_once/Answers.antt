use Rattle.std.proofs.Common.{refl, sym, ap, arith}
use Rattle.model_logic.specs.Choice.{declared_box}
use Rattle.model_settle.specs.CaseTrees.{Yes}
use Rattle.judge_settle.specs.settle.Words.{by_of_nodes}
use Rattle.judge_settle.proofs.settle.settling.held_at_once.Goals as goal

pub returns : goal.returns
returns c = λ line script k early there held.
    record {
      answer = record {
        tree = Yes;
        are = c.in_ok-tree.ensures.nodes;
        sound =
            (c.each_box_has_one_history_under.ensures.held line script k (declared_box line)).1 held;
        yes = refl;
        meets = c.what_is_held_is_met_between_ticks.ensures.declared line script k early there held;
        written = record {
          tree = Yes;
          are = c.in_ok-tree.ensures.nodes;
          branches = tt;
          low = omega arith;
          few = omega arith;
        };
      };
      by = sym (ap by_of_nodes c.in_ok-tree.ensures.nodes);
    }
