use Rattle.std.proofs.Common.{◌≡◌, ◌++◌, length, drop, sym, ap, arith, subst}
use Rattle.std.proofs.lemmas.List.Sorted.{length_permutation}
use Rattle.std.specs.List.Sorted.{IsPermutation}
use Rattle.run_step.specs.Shown.{ShowTheSame}
use Rattle.run_step.specs.ShownLaws.{same_in_order}
use Rattle.run_step.proofs.shown.Shown.new.Goals as goal

pub invariant_of-result : goal.invariant_of-result
invariant_of-result c =
    let ordered = c.in_ok-ordered.ordered.items in
    let none : length c.in_ok-present.present.items ≡ 0 = ap length c.in_ok-present.ensures.items in
    let spans : length c.deref.result.now ≡ length c.args.script.now.spans.items =
    ap length c.deref.ensures.value in
    let all : length ordered ≡ length c.deref.result.now =
    length_permutation c.deref.result.now ordered c.in_ok-ordered.ensures.same in
    record {
      rising = c.in_ok-ordered.ensures.rising;
      inside = omega arith;
      few = omega arith;
      room = omega (arith, c.in_ok-present.ensures.capacity, c.len.ensures);
    }

pub returns : goal.returns
returns c = λ r.
    let ordered = c.in_ok-ordered.ordered.items in
    let spans = c.args.script.now.spans.items in
    subst (λ l. ShowTheSame r (l ++ drop 0 ordered) spans) (sym c.in_ok-present.ensures.items)
    (same_in_order r spans ordered
    (subst (λ l. IsPermutation l ordered) c.deref.ensures.value c.in_ok-ordered.ensures.same))
