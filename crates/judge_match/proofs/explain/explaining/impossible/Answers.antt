use Rattle.std.proofs.Common.{◌≡◌, ◌+◌, ◌*◌, ap, arith, length}
use Rattle.judge_match.specs.explain.Parts.{preorder, part_count}
use Rattle.judge_match.proofs.explain_lemmas.TreeLaws.{nodes_counted}
use Rattle.judge_match.proofs.explain.explaining.impossible.Goals as goal

pub returns : goal.returns
returns c = λ line script within recorded nodes.
    let all : length (preorder nodes.tree) + 1 ≡ 2 * part_count nodes.tree =
    nodes_counted nodes.tree in
    let long : length c.args.nodes.items ≡ length (preorder nodes.tree) = ap length nodes.are in
    record {
      tree = nodes.tree;
      are = nodes.are;
      count = omega (arith, all, long, c.len.ensures);
      excluded = nodes.excluded;
      none = c.excluded_trees_explain_nothing.ensures line script within recorded nodes.tree
          nodes.excluded;
    }
