use Rattle.judge_cases.specs.Views.{view_box}
use Rattle.judge_settle.proofs.settle_lemmas.ViewLaws.{own_view}
use Rattle.judge_settle.proofs.settle.sides.parts.Goals as goal

pub lower_view-requires : goal.lower_view-requires
lower_view-requires c =
    let line = c.args.line.now in
    let view = c.args.view.now in
    record {
      part = (c.can_part.ensures (view_box line view) view.assumed.items
          (own_view line view c.requires)).0 c.if-not-can_part.false;
      view = c.requires;
    }

pub upper_view-requires : goal.upper_view-requires
upper_view-requires c =
    let line = c.args.line.now in
    let view = c.args.view.now in
    record {
      part = (c.can_part.ensures (view_box line view) view.assumed.items
          (own_view line view c.requires)).0 c.if-not-can_part.false;
      view = c.requires;
    }

pub returns : goal.returns
returns c = record {
  can = λ box assumed v. (c.can_part.ensures box assumed v).0 c.if-not-can_part.false;
  lower = c.in_ok-lower.ensures;
  upper = c.in_ok-upper.ensures;
}
