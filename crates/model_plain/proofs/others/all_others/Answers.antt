use Rattle.std.proofs.Common.{◌≡◌, ◌<◌, Option, IfOk, false, ap, ◌∙◌, arith}
use Rattle.std.specs.Prelude.{option_map, unwrap_or}
use Rattle.model_line.specs.Parameters.{terminal_count}
use Rattle.model_logic.specs.Received.{join_of, over_others, all_others}
use Rattle.model_logic.specs.Tree.{Tree, Const}
use Rattle.model_plain.specs.Formulas.{tree_of}
use Rattle.model_plain.proofs.OthersLaws.{others_itself, others_one_more, of_each}
use Rattle.model_plain.proofs.OthersLaws.{tree_or_none}
use Rattle.model_plain.proofs.others.all_others.Goals.{then-j-k+in_ok-joined, else-j-k}
use Rattle.model_plain.proofs.others.all_others.Goals as goal

pub loop-j-preserved : goal.loop-j-preserved
loop-j-preserved g c trees tree parts =
    let before : Option Tree = option_map (tree_of trees) c.loop-j.all in
    let is : before ≡ over_others (join_of c.args.join) tree c.args.k c.loop-j.j =
    c.loop-j.invariant trees tree parts in
    elim c.if-j-k.branch [
      | then-j-k+in_ok-joined w ↦
          let here : c.loop-j.j < terminal_count c.args.line.now = omega arith in
          let next : IfOk w.part.result (λ f. tree_of trees f ≡ tree c.loop-j.j) =
          of_each w.part.result (λ f ok. (parts c.loop-j.j f here w.if-j-k.true
          (rw ok at w.part.ensures)).over trees) in
          rw w.all-is
          (others_one_more (join_of c.args.join) tree c.args.k c.loop-j.j before
          (tree_of trees w.in_ok-joined.field-0) w.if-j-k.true is (w.in_ok-joined.ensures trees _ next))
      | else-j-k w ↦
          rw w.all-is
          (others_itself (join_of c.args.join) tree c.args.k c.loop-j.j before w.if-j-k.false is)
    ]

pub returns : goal.returns
unfolding all_others
returns g c parts tree each =
    let at_end : c.loop-j.j ≡ terminal_count c.args.line.now = omega arith in
    let all : option_map (tree_of parts) c.loop-j.all
    ≡ over_others (join_of c.args.join) tree c.args.k c.loop-j.j =
    c.loop-j.invariant parts tree each in
    ap (tree_of parts) c.unwrap_or.ensures ∙ tree_or_none parts c.loop-j.all
    ∙ ap (λ o. unwrap_or o (Const false))
    (all ∙ ap (over_others (join_of c.args.join) tree c.args.k) at_end)
