use Rattle.std.proofs.Common.{[], refl, sym, ◌∙◌}
use Rattle.std.proofs.lemmas.List.{append-nil}
use Rattle.model_line.specs.SameLineLaws.{same_line}
use Rattle.model_logic.specs.Choice.{declared_box}
use Rattle.judge_split.specs.Trees.{preorder}
use Rattle.cert_split.proofs.check_lemmas.ResultLaws.{tree_few, whole_not_held}
use Rattle.cert_split.proofs.check.result.check_tree.Goals as goal

pub walk-requires-clause-few : goal.walk-requires-clause-few
walk-requires-clause-few c = tree_few c.args.compiled.now.line.now c.args.nodes.now c.requires.tree

pub walk-requires-clause-tree : goal.walk-requires-clause-tree
walk-requires-clause-tree c =
    let line = c.args.compiled.now.line.now in
    let r = c.requires.tree in
    record {
      line = line;
      box = declared_box line;
      is_part = c.a_part_stands_for_its_box.ensures.own line line (same_line line);
      tree = r.tree;
      after = [];
      are = r.are ∙ sym (append-nil (preorder r.tree));
      splits = r.splits;
    }

pub returns-in-Err-Fault : goal.returns-in-Err-Fault
returns-in-Err-Fault c =
    let line = c.args.compiled.now.line.now in
    let r = c.requires.tree in (
      refl,
      whole_not_held line c.args.script.now c.args.terminal c.args.nodes.now r.tree
          c.in-Err-Fault.not_held r.are
          (rw c.in-Err-Fault.field-0-is at (c.in-Err-Fault.ensures line (declared_box line) r.tree []
          (c.a_part_stands_for_its_box.ensures.own line line (same_line line)) r.splits
          (r.are ∙ sym (append-nil (preorder r.tree))))),
    )

pub returns-in-Ok : goal.returns-in-Ok
returns-in-Ok c =
    let line = c.args.compiled.now.line.now in
    let r = c.requires.tree in
    record {
      tree = r.tree;
      are = r.are;
      sound = (c.in-Ok.ensures line (declared_box line) r.tree []
          (c.a_part_stands_for_its_box.ensures.own line line (same_line line)) r.splits
          (r.are ∙ sym (append-nil (preorder r.tree)))).sound;
    }
