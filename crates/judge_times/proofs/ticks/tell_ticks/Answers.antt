use Rattle.std.proofs.Common.{◌++◌, ◌∷◌, [], Bool, List, sym, subst, append-nil}
use Rattle.std.proofs.lemmas.Result.{IfOk-weaker}
use Rattle.model_history.specs.Rails.{Ends}
use Rattle.judge_borders.specs.{Halves.AreWithin, Halves.HaveOneLeast, Halves.ShareAnEnd, Parts.IsPart}
use Rattle.judge_times.specs.Answers.{AreAnswers, AreFailing}
use Rattle.judge_times.specs.{Stripped.AreStrips, Told.AreAlso}
use Rattle.judge_times.proofs.Growing.{grown}
use Rattle.judge_times.proofs.Leasts.{failing_same}
use Rattle.judge_times.proofs.Strips.{no_strips, strip_more, strips_whole}
use Rattle.judge_times.proofs.Wholes.{within_self, within_within}
use Rattle.judge_times.proofs.ticks.tell_ticks.Goals as goal

pub loop-t-init : goal.loop-t-init
loop-t-init c =
    let of = c.args.of.now in
    let part = c.args.part.now in
    let P : List Ends → Type 0 = λ l.
    (_ : IsPart l) × (_ : AreWithin part l) × (_ : AreFailing of l c.in_ok-before.before.items)
    × AreStrips of part l [] in
    let at = subst P (sym c.in_ok-rest.ensures.items)
    (c.requires.part, within_self part, c.in_ok-before.ensures, no_strips of part) in
    (at.0, at.1, at.2, [], sym (append-nil c.args.found.now.items), at.3)

pub tell_strip-requires-clause-before : goal.tell_strip-requires-clause-before
tell_strip-requires-clause-before c =
    let of = c.args.of.now in
    let rest : List Ends = c.loop-t.rest.items in
    let lower : List Ends = c.in_ok-two.two.lower.items in
    let one : HaveOneLeast rest lower =
    subst (λ (l : List Ends). HaveOneLeast l lower) c.as_slice.ensures.value c.in_ok-two.ensures.least in
    let here : AreFailing of lower c.loop-t.before.items =
    failing_same of rest lower one c.loop-t.before.items c.loop-t.invariant.2 in
    subst (λ (l : List Ends). AreFailing of l c.as_slice-in-loop-t-4.result.now)
    (sym c.as_slice-strip.ensures.value)
    (subst (AreFailing of lower) (sym c.as_slice-in-loop-t-4.ensures.value) here)

pub tell_strip-requires-clause-both : goal.tell_strip-requires-clause-both
tell_strip-requires-clause-both c =
    let of = c.args.of.now in
    let rest : List Ends = c.loop-t.rest.items in
    let lower : List Ends = c.in_ok-two.two.lower.items in
    let one : HaveOneLeast rest lower =
    subst (λ (l : List Ends). HaveOneLeast l lower) c.as_slice.ensures.value c.in_ok-two.ensures.least in
    let here : AreFailing of lower c.loop-t.before.items =
    failing_same of rest lower one c.loop-t.before.items c.loop-t.invariant.2 in
    let also : AreAlso c.loop-t.before.items c.in_ok-both.both.items =
    subst (λ (l : List Bool). AreAlso l c.in_ok-both.both.items) c.as_slice-in-loop-t-2.ensures.value
    c.in_ok-both.ensures in
    let both : AreFailing of lower c.in_ok-both.both.items = λ k at. here k (also k at) in
    subst (λ (l : List Ends). AreFailing of l c.as_slice-in-loop-t-5.result.now)
    (sym c.as_slice-strip.ensures.value)
    (subst (AreFailing of lower) (sym c.as_slice-in-loop-t-5.ensures.value) both)

pub loop-t-preserved : goal.loop-t-preserved
loop-t-preserved c =
    let of = c.args.of.now in
    let part = c.args.part.now in
    let rest : List Ends = c.loop-t.rest.items in
    let lower : List Ends = c.in_ok-two.two.lower.items in
    let upper : List Ends = c.in_ok-two.two.upper.items in
    let inv = c.loop-t.invariant in
    let two = c.in_ok-two.ensures in
    let P : List Ends → Type 0 = λ l.
    (_ : AreWithin l lower) × (_ : AreWithin l upper) × ShareAnEnd l lower upper in
    let at = subst P c.as_slice.ensures.value (two.lower_within, two.upper_within, two.cover) in
    let told = c.in_ok-tell_strip.ensures in
    let answers : AreAnswers of lower told.0 =
    subst (λ (l : List Ends). AreAnswers of l told.0) c.as_slice-strip.ensures.value told.2 in (
      two.upper,
      within_within part rest upper inv.1 at.1,
      subst (λ (l : List Ends). AreFailing of l c.in_ok-after.after.items)
          c.as_slice-in-loop-t.ensures.value c.in_ok-after.ensures,
      inv.3 ++ told.0,
      grown c.args.found.now.items c.loop-t.found.items c.tell_strip.new.found.items inv.3 told.0 inv.4
          told.1,
      strip_more of part rest lower upper inv.3 told.0 at.2 (within_within part rest lower inv.1 at.0)
          inv.5 answers,
    )

pub returns : goal.returns
returns c =
    let of = c.args.of.now in
    let part = c.args.part.now in
    let rest : List Ends = c.loop-t.rest.items in
    let inv = c.loop-t.invariant in
    let P : List Ends → Type 0 = λ l.
    (_ : AreWithin part l) × (_ : AreFailing of l c.as_slice-3.result.now)
    × (_ : AreStrips of part l inv.3) × IsPart l in
    let at = subst P (sym c.as_slice-2.ensures.value)
    (inv.1, subst (AreFailing of rest) (sym c.as_slice-3.ensures.value) inv.2, inv.5, inv.0) in
    IfOk-weaker c.push_told.result _ _
    (λ u own. (
      inv.3 ++ own.0 ∷ [],
      grown c.args.found.now.items c.loop-t.found.items c.push_told.new.found.items inv.3 (own.0 ∷ [])
          inv.4 own.1,
      strips_whole of part c.as_slice-2.result.now inv.3 own.0 at.2 own.2
          (own.3 of part at.3 at.0
          (c.what_is_known_of_a_part_is_known_within.ensures.rules of.fault part c.as_slice-2.result.now
          c.args.known.now at.0 c.requires.known) at.1),
    ))
    c.push_told.ensures
