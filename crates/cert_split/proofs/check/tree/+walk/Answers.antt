use Rattle.std.proofs.Common.{◌≡◌, ◌<◌, ◌+◌, ◌++◌, ℕ, List, length, drop, sym, subst, arith}
use Rattle.std.proofs.lemmas.Result.{err_from_is_err_and, MatchResult-weaker}
use Rattle.model_line.specs.SameLineLaws.{same_line}
use Rattle.base_memory.specs.{Gives.OfFault, declared.stopped.Stopped.Stopped}
use Rattle.model_logic.specs.Choice.{declared_box}
use Rattle.judge_split.specs.declared.node.Node.{Node}
use Rattle.judge_split.specs.declared.node.Node.TheVariants as node
use Rattle.judge_split.specs.Trees.{SplitTree, Split, preorder}
use Rattle.model_logic.specs.Boxes.{lower_half, upper_half}
use Rattle.cert_split.specs.declared.check.tree.{NotHeld.NotHeld, Passed.Passed}
use Rattle.cert_split.specs.check.Walks.{IsWalked, IsNotHeldFrom}
use Rattle.cert_split.proofs.check_lemmas.WalkLaws.{root_at, within, split_next, few_leaves, walked_yes}
use Rattle.cert_split.proofs.check_lemmas.WalkLaws.{walked_undecided, walked_split, fault_leaf}
use Rattle.cert_split.proofs.check_lemmas.WalkLaws.{fault_first}
use Rattle.cert_split.proofs.check_lemmas.WalkLaws.{fault_second}
use Rattle.cert_split.proofs.check.tree.+walk.Goals as goal

-- ---- the node

pub bounds : goal.bounds
bounds t c =
    let r = c.requires.tree in
    within r.tree r.after c.args.nodes.now c.args.passed.nodes r.are

pub offset_bounds-nodes-passed : goal.offset_bounds-nodes-passed
offset_bounds-nodes-passed t c =
    let r = c.requires.tree in
    let here = within r.tree r.after c.args.nodes.now c.args.passed.nodes r.are in
    omega (arith, here, c.requires.few)

-- ---- leaves

pub after_leaf-requires-clause-few : goal.after_leaf-requires-clause-few
after_leaf-requires-clause-few t c =
    let r = c.requires.tree in
    let here = within r.tree r.after c.args.nodes.now c.args.passed.nodes r.are in
    omega (arith, here, c.requires.few)

pub returns-in_err-check_leaf-in-Yes : goal.returns-in_err-check_leaf-in-Yes
returns-in_err-check_leaf-in-Yes t c =
    let p = err_from_is_err_and c.from_residual.result c.from_residual.ensures.1 in
    rw (p.1, p.2) (λ line box tree after is_part splits are.
    let script = c.args.script.now in
    let k : ℕ = c.args.terminal in
    fault_leaf line script k c.args.part.now.line.now tree box c.args.passed.leaves
    c.in_err-check_leaf-in-Yes.field-0.0
    (c.a_part_stands_for_its_box.ensures.held line c.args.part.now.line.now box script k is_part).1
    (root_at tree after c.args.nodes.now c.args.passed.nodes node.Yes node.Yes are c.in-Yes.is)
    c.in_err-check_leaf-in-Yes.ensures)

pub returns-in_ok-check_leaf-in-Yes : goal.returns-in_ok-check_leaf-in-Yes
returns-in_ok-check_leaf-in-Yes t c = λ line box tree after is_part splits are.
    let script = c.args.script.now in
    let k : ℕ = c.args.terminal in
    walked_yes line script k tree box c.args.passed c.after_leaf.result
    (root_at tree after c.args.nodes.now c.args.passed.nodes node.Yes node.Yes are c.in-Yes.is)
    ((c.a_part_stands_for_its_box.ensures.held line c.args.part.now.line.now box script k is_part).0
    c.in_ok-check_leaf-in-Yes.ensures)
    c.after_leaf.ensures.nodes c.after_leaf.ensures.leaves

pub returns-in-Undecided : goal.returns-in-Undecided
returns-in-Undecided t c = λ line box tree after is_part splits are.
    walked_undecided line c.args.script.now c.args.terminal tree box c.args.passed
    c.after_leaf-in-Undecided.result
    (root_at tree after c.args.nodes.now c.args.passed.nodes node.Yes node.Undecided are
    c.in-Undecided.is)
    c.after_leaf-in-Undecided.ensures.nodes c.after_leaf-in-Undecided.ensures.leaves

-- ---- a split

pub lower_part-requires : goal.lower_part-requires
lower_part-requires t c =
    let r = c.requires.tree in
    let here = split_next r.line r.box r.tree r.after c.args.nodes.now c.args.passed.nodes
    c.in-Split.param c.in-Split.mid r.splits r.are
    (root_at r.tree r.after c.args.nodes.now c.args.passed.nodes node.Yes _ r.are c.in-Split.is) in
    (c.a_part_stands_for_its_box.ensures.split r.line c.args.part.now.line.now r.box
    c.in-Split.param
    c.in-Split.mid r.is_part).1 here.can

pub walk-requires : goal.walk-requires
walk-requires t c =
    let r = c.requires.tree in
    let part = c.args.part.now.line.now in
    let nodes : List Node = c.args.nodes.now in
    let lower = c.in_ok-lower_line-in-Split.lower_line in
    let inside = within r.tree r.after nodes c.args.passed.nodes r.are in
    let here = split_next r.line r.box r.tree r.after nodes c.args.passed.nodes c.in-Split.param
    c.in-Split.mid r.splits r.are
    (root_at r.tree r.after nodes c.args.passed.nodes node.Yes _ r.are c.in-Split.is) in
    let half = c.in_ok-lower_line-in-Split.ensures.part part (declared_box part)
    (c.a_part_stands_for_its_box.ensures.own part part (same_line part)) in (
      omega (arith, inside, c.after_split.ensures.nodes, c.decreases),
      (
        c.scripts_fit_whatever_the_intervals.ensures part lower c.args.script.now half.rest
            c.requires.fits,
        (
          subst (λ (n : ℕ). c.args.terminal < n)
              (sym (c.counts_do_not_rest_on_the_intervals.ensures.terminals part lower half.rest))
              c.requires.terminal,
          (
            c.requires.few,
            (
              omega (
                arith,
                c.after_split.ensures.nodes,
                c.after_split.ensures.leaves,
                c.requires.leaves,
              ),
              record {
                line = r.line;
                box = lower_half r.box c.in-Split.param c.in-Split.mid;
                is_part = c.in_ok-lower_line-in-Split.ensures.part r.line r.box r.is_part;
                tree = here.first;
                after = preorder here.second ++ r.after;
                are = subst (λ (n : ℕ).
                    drop n nodes ≡ preorder here.first ++ (preorder here.second ++ r.after))
                    (sym c.after_split.ensures.nodes) here.first_next;
                splits = here.lower;
              },
            ),
          ),
        ),
      ),
    )

pub returns-in_err-between-in-Split : goal.returns-in_err-between-in-Split
returns-in_err-between-in-Split t c =
    let p = err_from_is_err_and c.from_residual-in_err-between-in-Split.result
    c.from_residual-in_err-between-in-Split.ensures.1 in
    rw (p.1, p.2) (λ line box tree after is_part splits are.
    let script = c.args.script.now in
    let k : ℕ = c.args.terminal in
    let nodes : List Node = c.args.nodes.now in
    let param : ℕ = c.in-Split.param in
    let mid : ℕ = c.in-Split.mid in
    let why : Stopped NotHeld = c.in_err-between-in-Split.field-0.0 in
    let here = split_next line box tree after nodes c.args.passed.nodes param mid splits are
    (root_at tree after nodes c.args.passed.nodes node.Yes _ are c.in-Split.is) in
    let found = c.in_err-between-in-Split.ensures line (lower_half box param mid) here.first
    (preorder here.second ++ after) (c.in_ok-lower_line-in-Split.ensures.part line box is_part)
    here.lower
    (subst (λ (n : ℕ). drop n nodes ≡ preorder here.first ++ (preorder here.second ++ after))
    (sym c.after_split.ensures.nodes) here.first_next) in
    subst (λ (x : SplitTree). OfFault (IsNotHeldFrom line script k box x c.args.passed.leaves) why)
    (sym here.is)
    (fault_first line script k box param mid here.first here.second c.args.passed.leaves why
    (subst (λ (n : ℕ). OfFault (IsNotHeldFrom line script k (lower_half box param mid) here.first n) why)
    c.after_split.ensures.leaves found)))

pub upper_part-requires : goal.upper_part-requires
upper_part-requires t c =
    let r = c.requires.tree in
    let here = split_next r.line r.box r.tree r.after c.args.nodes.now c.args.passed.nodes
    c.in-Split.param c.in-Split.mid r.splits r.are
    (root_at r.tree r.after c.args.nodes.now c.args.passed.nodes node.Yes _ r.are c.in-Split.is) in
    (c.a_part_stands_for_its_box.ensures.split r.line c.args.part.now.line.now r.box
    c.in-Split.param
    c.in-Split.mid r.is_part).1 here.can

pub walk-requires-in-Split : goal.walk-requires-in-Split
walk-requires-in-Split t c =
    let r = c.requires.tree in
    let part = c.args.part.now.line.now in
    let nodes : List Node = c.args.nodes.now in
    let upper = c.in_ok-upper_line-in-Split.upper_line in
    let between : Passed = c.in_ok-between-in-Split.between in
    let inside = within r.tree r.after nodes c.args.passed.nodes r.are in
    let here = split_next r.line r.box r.tree r.after nodes c.args.passed.nodes c.in-Split.param
    c.in-Split.mid r.splits r.are
    (root_at r.tree r.after nodes c.args.passed.nodes node.Yes _ r.are c.in-Split.is) in
    let half = c.in_ok-upper_line-in-Split.ensures.part part (declared_box part)
    (c.a_part_stands_for_its_box.ensures.own part part (same_line part)) in
    let walked = c.in_ok-between-in-Split.ensures r.line
    (lower_half r.box c.in-Split.param c.in-Split.mid) here.first (preorder here.second ++ r.after)
    (c.in_ok-lower_line-in-Split.ensures.part r.line r.box r.is_part) here.lower
    (subst (λ (n : ℕ). drop n nodes ≡ preorder here.first ++ (preorder here.second ++ r.after))
    (sym c.after_split.ensures.nodes) here.first_next) in
    let few = few_leaves here.first (lower_half r.box c.in-Split.param c.in-Split.mid) in
    let past : (c.args.passed.nodes + 1) + length (preorder here.first) ≡ between.nodes =
    omega (arith, walked.nodes, c.after_split.ensures.nodes) in (
      omega (arith, inside, past, c.decreases),
      (
        c.scripts_fit_whatever_the_intervals.ensures part upper c.args.script.now half.rest
            c.requires.fits,
        (
          subst (λ (n : ℕ). c.args.terminal < n)
              (sym (c.counts_do_not_rest_on_the_intervals.ensures.terminals part upper half.rest))
              c.requires.terminal,
          (
            c.requires.few,
            (
              omega (
                arith,
                walked.nodes,
                walked.leaves,
                few.1,
                c.after_split.ensures.nodes,
                c.after_split.ensures.leaves,
                c.requires.leaves,
              ),
              record {
                line = r.line;
                box = upper_half r.box c.in-Split.param c.in-Split.mid;
                is_part = c.in_ok-upper_line-in-Split.ensures.part r.line r.box r.is_part;
                tree = here.second;
                after = r.after;
                are = subst (λ (n : ℕ). drop n nodes ≡ preorder here.second ++ r.after) past
                    here.second_next;
                splits = here.upper;
              },
            ),
          ),
        ),
      ),
    )

pub returns-in_ok-upper_line-in-Split : goal.returns-in_ok-upper_line-in-Split
returns-in_ok-upper_line-in-Split t c = λ line box tree after is_part splits are.
    let script = c.args.script.now in
    let k : ℕ = c.args.terminal in
    let nodes : List Node = c.args.nodes.now in
    let param : ℕ = c.in-Split.param in
    let mid : ℕ = c.in-Split.mid in
    let below : Passed = c.after_split.result in
    let between : Passed = c.in_ok-between-in-Split.between in
    let here = split_next line box tree after nodes c.args.passed.nodes param mid splits are
    (root_at tree after nodes c.args.passed.nodes node.Yes _ are c.in-Split.is) in
    let lower = c.in_ok-between-in-Split.ensures line (lower_half box param mid) here.first
    (preorder here.second ++ after) (c.in_ok-lower_line-in-Split.ensures.part line box is_part)
    here.lower
    (subst (λ (n : ℕ). drop n nodes ≡ preorder here.first ++ (preorder here.second ++ after))
    (sym c.after_split.ensures.nodes) here.first_next) in
    let past : (c.args.passed.nodes + 1) + length (preorder here.first) ≡ between.nodes =
    omega (arith, lower.nodes, c.after_split.ensures.nodes) in
    let upper = c.walk-in-Split.ensures line (upper_half box param mid) here.second after
    (c.in_ok-upper_line-in-Split.ensures.part line box is_part) here.upper
    (subst (λ (n : ℕ). drop n nodes ≡ preorder here.second ++ after) past here.second_next) in
    MatchResult-weaker c.walk-in-Split.result upper
    (λ walked above.
    subst (λ (x : SplitTree). IsWalked line script k box x c.args.passed walked) (sym here.is)
    (walked_split line script k box param mid here.first here.second c.args.passed below between
    walked here.can c.after_split.ensures.nodes c.after_split.ensures.leaves lower above))
    (λ why above.
    subst (λ (x : SplitTree). OfFault (IsNotHeldFrom line script k box x c.args.passed.leaves) why)
    (sym here.is)
    (subst (λ (n : ℕ). OfFault
    (IsNotHeldFrom line script k box (Split param mid here.first here.second) n) why)
    c.after_split.ensures.leaves
    (fault_second line script k box param mid here.first here.second below between why lower
    above)))
