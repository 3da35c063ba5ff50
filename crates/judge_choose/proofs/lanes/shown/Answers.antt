use Rattle.std.proofs.Common.{◌+◌, ℕ, List, Bool, subst, refl}
use Rattle.judge_choose.specs.Lanes.{TellsFirstOff}
use Rattle.judge_choose.proofs.choose_lemmas.LaneLaws.{shown_is}
use Rattle.judge_choose.proofs.lanes.shown.Goals as goal

pub returns-clause-shown : goal.returns-clause-shown
returns-clause-shown c line scripts is tells =
    let told = c.args.told.now in
    let lane : ℕ = c.args.lane in
    shown_is line scripts c.args.candidate.now told lane
    (record {
      first = c.args.candidate.now.first;
      last = c.args.candidate.now.last;
      kept = c.in_ok-kept.kept;
      below = c.bound.result;
      above = c.bound-2.result;
    }) c.first_off-below.result c.first_off-above.result is tells c.in_ok-kept.ensures refl refl
    (subst (λ (l : List Bool). TellsFirstOff l told (lane + 1) c.first_off-below.result)
    c.deref.ensures.value c.first_off-below.ensures)
    (subst (λ (l : List Bool). TellsFirstOff l told (lane + 2) c.first_off-above.result)
    c.deref-2.ensures.value c.first_off-above.ensures) c.bound.ensures c.bound-2.ensures
