use Rattle.std.proofs.Common.{◌≡◌, ◌<◌, ◌-◌, ℕ, subst, arith}
use Rattle.model_history.specs.Rails.{Rails, Ends}
use Rattle.model_settle.specs.Sides as model
use Rattle.judge_settle.specs.corner.Delays.{NothingIsAwaited}
use Rattle.model_settle.specs.Worst.{worst_delay}
use Rattle.run_signal.specs.Spans.{ends_of}
use Rattle.judge_verdict.specs.verdict.PairWavesOf.{pair_history}
use Rattle.judge_settle.specs.corner.Named.{rail_named}
use Rattle.judge_settle.specs.corner.Delays.{NoneIsShown}
use Rattle.judge_settle.proofs.corner_lemmas.LastShown.{awaited, least_lasts, first_arrives}
use Rattle.judge_settle.proofs.corner_lemmas.LastShown.{greatest_lasts}
use Rattle.judge_settle.proofs.corner.delays.worst_from.Goals as goal
use Rattle.judge_settle.proofs.corner.delays.worst_from.Goals.{After-first_shown-first}

pub returns-then-is_awaited-clause-worst : goal.returns-then-is_awaited-clause-worst
returns-then-is_awaited-clause-worst c = λ r late early inside.
    awaited (rail_named c.args.rail) ((pair_history c.args.waves.now).key c.args.sender)
    (ends_of c.args.least c.args.greatest) r c.requires.ordered
    (c.is_awaited.ensures.shown c.if-is_awaited.true) early

-- none is shown of what can arrive first
none : (c : After-first_shown-first) → NoneIsShown (rail_named c.args.rail)
    ((pair_history c.args.waves.now).key c.args.sender) (c.args.t - c.args.greatest)
    c.first_shown-first.result
none c =
    subst (λ (n : ℕ). NoneIsShown (rail_named c.args.rail)
    ((pair_history c.args.waves.now).key c.args.sender) n c.first_shown-first.result)
    c.saturating_sub.ensures c.first_shown-first.ensures.none

past : (c : After-first_shown-first) → NothingIsAwaited (rail_named c.args.rail) c.args.greatest
    c.args.t
past c = c.is_awaited.ensures.past c.if-is_awaited.false

pub returns-then-first-saturating_sub-clause-worst :
    goal.returns-then-first-saturating_sub-clause-worst
returns-then-first-saturating_sub-clause-worst c = λ r late early inside.
    let at = (goal.at.returns-then-first-saturating_sub-clause-worst c).After-first_shown-first in
    least_lasts (rail_named c.args.rail) ((pair_history c.args.waves.now).key c.args.sender)
    (ends_of c.args.least c.args.greatest) c.args.t c.first_shown-first.result c.requires.ordered
    (past at) (none at) r late (omega (arith, early))

pub returns-then-delay-greatest-clause-worst : goal.returns-then-delay-greatest-clause-worst
returns-then-delay-greatest-clause-worst c = λ r late early inside.
    let at = (goal.at.returns-then-delay-greatest-clause-worst c).After-first_shown-first in
    let rail : model.Rail = rail_named c.args.rail in
    let key : ℕ → Rails = (pair_history c.args.waves.now).key c.args.sender in
    let ends : Ends = ends_of c.args.least c.args.greatest in
    let first : ℕ = c.first_shown-first.result in
    let here : c.args.t ≡ r = omega (arith, late, early) in
    let soon : first < c.args.t - c.args.least =
    omega (arith, c.if-first-saturating_sub.false, c.saturating_sub-2.ensures) in
    let run : first < c.args.waves.now.horizon = omega (arith, soon, c.requires.tick) in
    subst (λ (n : ℕ). c.args.t - first ≡ worst_delay rail key ends n) here
    (first_arrives rail key ends c.args.t first c.requires.ordered (past at) (none at)
    (omega (arith, c.first_shown-first.ensures.later, c.saturating_sub.ensures)) soon
    (c.first_shown-first.ensures.shown run))

pub returns-clause-worst : goal.returns-clause-worst
returns-clause-worst c = λ r late early inside.
    let at = (goal.at.returns-clause-worst c).After-first_shown-first in
    let first : ℕ = c.first_shown-first.result in
    let soon : first < c.args.t - c.args.least =
    omega (arith, c.if-first-saturating_sub.false, c.saturating_sub-2.ensures) in
    let run : first < c.args.waves.now.horizon = omega (arith, soon, c.requires.tick) in
    greatest_lasts (rail_named c.args.rail) ((pair_history c.args.waves.now).key c.args.sender)
    (ends_of c.args.least c.args.greatest) c.args.t first c.requires.ordered (past at) (none at)
    (omega (
      arith,
      soon,
      c.if-delay-greatest.false,
      c.first_shown-first.ensures.later,
      c.saturating_sub.ensures,
    ))
    (c.first_shown-first.ensures.shown run) c.alike_until.result r c.alike_until.ensures.alike late
    early
