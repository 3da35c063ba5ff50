use Rattle.std.proofs.Common.{◌++◌, ◌∷◌, [], List, sym, subst}
use Rattle.std.proofs.lemmas.Result.{IfOk-weaker}
use Rattle.model_history.specs.Rails.{Ends}
use Rattle.judge_borders.specs.{Halves.AreWithin, Halves.ShareAnEnd, Parts.AreRules}
use Rattle.judge_times.proofs.Growing.{grown}
use Rattle.judge_times.proofs.Wholes.{alone, joined, within_self}
use Rattle.judge_times.proofs.search.+answer_into.Goals as goal

pub returns-in-Told : goal.returns-in-Told
returns-in-Told t c =
    let of = c.args.of.now in
    let part = c.args.part.now in
    let rules : AreRules of.fault part c.as_slice-rules.result.now =
    subst (AreRules of.fault part) (sym c.as_slice-rules.ensures.value) c.in_ok-rules.ensures in
    IfOk-weaker c.push_told.result _ _
    (λ u own. (
      own.0 ∷ [],
      own.1,
      alone of part own.0 own.2 (own.3 of part c.requires.part (within_self part) rules (λ k at. absurd (cc))),
    ))
    c.push_told.ensures

pub returns : goal.returns
returns t c =
    let of = c.args.of.now in
    let part = c.args.part.now in
    let lower : List Ends = c.as_slice-lower.result.now in
    let upper : List Ends = c.as_slice-upper.result.now in
    let two = c.in_ok-two-in-Halves.ensures in
    let P : List Ends → List Ends → Type 0 = λ l u.
    (_ : AreWithin part l) × (_ : AreWithin part u) × ShareAnEnd part l u in
    let at = subst (P lower) (sym c.as_slice-upper.ensures.value)
    (subst (λ (l : List Ends). P l c.in_ok-two-in-Halves.two.upper.items) (sym c.as_slice-lower.ensures.value)
    (two.lower_within, two.upper_within, two.cover)) in
    let first = c.in_ok-answer_into-in-Halves.ensures in
    IfOk-weaker c.answer_into-in-Halves.result _ _
    (λ u second. (
      first.0 ++ second.0,
      grown c.args.found.now.items c.answer_into.new.found.items
          c.answer_into-in-Halves.new.found.items first.0 second.0 first.1 second.1,
      joined of part lower upper first.0 second.0 at.2 at.0 at.1 first.2 second.2,
    ))
    c.answer_into-in-Halves.ensures
