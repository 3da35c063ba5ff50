use Rattle.std.proofs.Common.{false, ◌≡◌, ◌++◌, ◌∷◌, ◌∙◌, [], List, sym, subst}
use Rattle.std.proofs.lemmas.Result.{IfOk-weaker}
use Rattle.model_history.specs.Rails.{Ends}
use Rattle.judge_borders.specs.{Halves.AreWithin, Halves.HaveOneLeast, Parts.AreRules, Parts.IsPart}
use Rattle.judge_times.specs.Ends.{end_of}
use Rattle.judge_times.proofs.Growing.{grown}
use Rattle.judge_times.proofs.Leasts.{end_part, end_within, failing_same, least_end}
use Rattle.judge_times.proofs.Wholes.{alone, behind, within_self}
use Rattle.judge_times.proofs.ticks.tell_strip.Goals as goal

pub returns : goal.returns
returns c =
    let of = c.args.of.now in
    let strip = c.args.strip.now in
    let before = c.args.found.now.items in
    let at_least = c.push_failing.new.found.items in
    let least : List Ends = c.as_slice.result.now in
    let same : least ≡ end_of false strip = c.as_slice.ensures.value ∙ c.in_ok-least.ensures in
    let within : AreWithin strip least =
    subst (AreWithin strip) (sym same) (end_within false strip c.requires.part) in
    let one : HaveOneLeast strip least =
    subst (HaveOneLeast strip) (sym same) (least_end strip) in
    let rules : AreRules of.fault strip c.as_slice-2.result.now =
    subst (AreRules of.fault strip) (sym c.as_slice-2.ensures.value) c.in_ok-rules.ensures in
    let rules_too : AreRules of.fault strip c.as_slice-3.result.now =
    subst (AreRules of.fault strip) (sym c.as_slice-3.ensures.value) c.in_ok-rules.ensures in
    let first = c.in_ok-push_failing.ensures in
    let ordered : IsPart least = subst IsPart (sym same) (end_part false strip c.requires.part) in
    let all = first.2 of strip ordered within
    (c.what_is_known_of_a_part_is_known_within.ensures.rules of.fault strip least c.as_slice-2.result.now within
    rules)
    (failing_same of strip least one c.args.before.now c.requires.before) in
    IfOk-weaker c.push_told.result _ _
    (λ u own. (
      first.0 ++ own.0 ∷ [],
      grown before at_least c.push_told.new.found.items first.0 (own.0 ∷ []) first.1 own.1,
      behind of strip first.0 (own.0 ∷ []) all
          (alone of strip own.0 own.2 (own.3 of strip c.requires.part (within_self strip) rules_too c.requires.both)),
    ))
    c.push_told.ensures
