use Rattle.std.proofs.Common.{◌≡◌, ◌++◌, ◌∷◌, ◌∙◌, [], List, ap, arith, sym, subst, length, length-append}
use Rattle.std.proofs.lemmas.List.Elements.{All-nil}
use Rattle.std.specs.Prelude.{get_or}
use Rattle.std.specs.List.{All}
use Rattle.model_history.specs.Rails.{Ends, single}
use Rattle.judge_times.specs.declared.stretch.Stretch.{Stretch}
use Rattle.judge_times.specs.Stretches.{FollowFrom, IsStretch}
use Rattle.judge_times.proofs.Joins.{each_more, follow_more}
use Rattle.judge_times.proofs.follow.stretches.Goals as goal

pub loop-t-init : goal.loop-t-init
loop-t-init c =
    let least = c.least-t.ensures.least ∙ ap (λ (e : Ends). e.least) c.first_in-first.ensures in
    let empty = c.new-found.ensures.items in (
      c.in_ok-last.ensures.to ∙ sym least,
      (let ordered = c.requires.whole.ordered 0 c.requires.some in omega (arith, least, ordered)),
      subst (λ (l : List Stretch). FollowFrom (get_or c.args.whole.now 0 (single 0)).least l c.in_ok-last.last.from)
          (sym empty) (sym c.in_ok-last.ensures.from),
      λ of are. (
        subst (All (IsStretch of c.args.whole.now c.args.terminal)) (sym empty)
            (All-nil (IsStretch of c.args.whole.now c.args.terminal)),
        c.in_ok-last.ensures.says of are,
      ),
    )

pub loop-t-preserved : goal.loop-t-preserved
loop-t-preserved c =
    let inv = c.loop-t.invariant in (
      c.in_ok-last-2.ensures.to,
      (let greatest = c.greatest-t-end.ensures.greatest ∙ ap (λ (e : Ends). e.greatest) c.first_in-first.ensures in
          omega (arith, greatest, c.loop-t-test.true)),
      c.in_ok-last-2.ensures.follow (get_or c.args.whole.now 0 (single 0)).least inv.2,
      λ of are.
          let both = inv.3 of are in c.in_ok-last-2.ensures.says of are both.0 both.1,
    )

pub returns : goal.returns
returns c = λ of are.
    let whole = c.args.whole.now in
    let k = c.args.terminal in
    let inv = c.loop-t.invariant in
    let both = inv.3 of are in
    let greatest = c.greatest-t-end.ensures.greatest ∙ ap (λ (e : Ends). e.greatest) c.first_in-first.ensures in
    let last : Stretch = c.loop-t.last in
    let more : c.push.new.self.items ≡ c.loop-t.found.items ++ last ∷ [] = c.in_ok-push.ensures.items in
    let to = inv.0 in
    let most = inv.1 in
    let at_end : last.to ≡ (get_or whole 0 (single 0)).greatest =
    omega (arith, to, most, greatest, c.loop-t-test.false) in
    record {
      some = omega (arith, ap length more, length-append c.loop-t.found.items (last ∷ []));
      follow = follow_more (get_or whole 0 (single 0)).least c.loop-t.found.items c.push.new.self.items last
          (get_or whole 0 (single 0)).greatest more inv.2 at_end;
      each = each_more of whole k c.loop-t.found.items c.push.new.self.items last more both.0 both.1;
    }
