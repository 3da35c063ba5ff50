use Rattle.std.proofs.Common.{◌++◌, ◌∷◌, []}
use Rattle.std.proofs.lemmas.Result.{IfOk-weaker}
use Rattle.judge_times.proofs.Growing.{grown}
use Rattle.judge_times.proofs.Wholes.{alone, behind, within_self}
use Rattle.judge_times.proofs.ticks.tell_ends.Goals as goal

pub returns : goal.returns
returns c =
    let of = c.args.of.now in
    let part = c.args.part.now in
    let before = c.args.found.now.items in
    let first = c.in_ok-tell_end.ensures in
    let second = c.in_ok-tell_end-2.ensures in
    let at_first = c.tell_end.new.found.items in
    let at_second = c.tell_end-2.new.found.items in
    IfOk-weaker c.push_told.result _ _
    (λ u own. (
      first.0 ++ (second.0 ++ own.0 ∷ []),
      grown before at_first c.push_told.new.found.items first.0 (second.0 ++ own.0 ∷ []) first.1
          (grown at_first at_second c.push_told.new.found.items second.0 (own.0 ∷ []) second.1 own.1),
      behind of part first.0 (second.0 ++ own.0 ∷ []) first.2
          (behind of part second.0 (own.0 ∷ []) second.2
          (alone of part own.0 own.2 (own.3 of part c.requires.part (within_self part) c.requires.rules (λ k at. absurd (cc))))),
    ))
    c.push_told.ensures
