use Rattle.std.proofs.Common.{◌≡◌, ◌∙◌, ap, subst, false}
use Rattle.model_history.specs.Rails.{both}
use Rattle.run_step.specs.Shown.{IsShownAt}
use Rattle.run_step.specs.TickLaws.{seen_pair, loss_pair, raw_pair, timer_stands, timer_pair}
use Rattle.run_step.specs.TickLaws.{seal_stands, seal_pair}
use Rattle.run_step.proofs.gate_answer.answer.Goals as goal

pub returns-in-Seen-clause-answers : goal.returns-in-Seen-clause-answers
returns-in-Seen-clause-answers g c = λ lane w keys u inside shown of sent agree before.
    seen_pair w keys u c.args.moment.now.t c.args.gate.now _ c.in-Seen.place c.in-Seen.is
    (subst (λ x. g.V.Signal.signal.rails c.known-in-Seen.result lane ≡ x) (ap both c.shown_in.ensures
    ∙ subst (λ h. IsShownAt c.args.spans.now w c.args.moment.now.t h) c.in-Seen.is shown)
    (c.known-in-Seen.ensures lane inside))

pub returns-in-Loss-clause-answers : goal.returns-in-Loss-clause-answers
returns-in-Loss-clause-answers g c = λ lane w keys u inside shown of sent agree before.
    loss_pair w keys u c.args.moment.now.t c.args.gate.now _ c.in-Loss.channel c.in-Loss.is
    (subst (λ x. g.V.Signal.signal.rails c.known-in-Loss.result lane ≡ x) (ap both c.lost_in.ensures
    ∙ subst (λ h. IsShownAt c.args.spans.now w c.args.moment.now.t h) c.in-Loss.is shown)
    (c.known-in-Loss.ensures lane inside))

pub returns-in-Raw-clause-answers : goal.returns-in-Raw-clause-answers
returns-in-Raw-clause-answers g c = λ lane w keys u inside shown of sent agree before.
    raw_pair w keys u c.args.moment.now.t c.args.gate.now _ c.in-Raw.channel c.in-Raw.is
    (c.raw_answer.ensures lane w keys inside of sent)

pub returns-in-Timer-clause-stands : goal.returns-in-Timer-clause-stands
returns-in-Timer-clause-stands g c = λ lane w u inside agree before.
    timer_stands g.V.Signal.signal g.V.Timed.stands_for lane w (λ _ _. both false) u
    c.args.moment.now.t c.args.gate.now c.args.cell.now c.timer_answer.new.cell c.in-Timer.x
    c.in-Timer.field-1 c.in-Timer.field-2 c.in-Timer.is
    (g.V.Signal.signal.rails c.argument-in-Timer.result lane)
    (agree c.in-Timer.x.0 c.argument-in-Timer.result c.argument-in-Timer.ensures) before
    (λ p d inputs h. c.timer_answer.ensures.stands lane p d inputs inside h)

pub returns-in-Timer-clause-answers : goal.returns-in-Timer-clause-answers
returns-in-Timer-clause-answers g c = λ lane w keys u inside shown of sent agree before.
    timer_pair g.V.Signal.signal g.V.Timed.stands_for lane w keys u
    c.args.moment.now.t c.args.gate.now c.args.cell.now c.timer_answer.new.cell c.in-Timer.x
    c.in-Timer.field-1 c.in-Timer.field-2 c.in-Timer.is
    (g.V.Signal.signal.rails c.argument-in-Timer.result lane)
    (agree c.in-Timer.x.0 c.argument-in-Timer.result c.argument-in-Timer.ensures) before
    c.recorded_ticks_suffice.ensures (g.V.Signal.signal.rails c.timer_answer.result lane)
    (λ p d inputs h. c.timer_answer.ensures.timed lane p d inputs inside h)

pub returns-in-Seal-clause-stands : goal.returns-in-Seal-clause-stands
returns-in-Seal-clause-stands g c = λ lane w u inside agree before.
    seal_stands g.V.Signal.signal g.V.Timed.stands_for lane w (λ _ _. both false) u
    c.args.moment.now.t c.args.gate.now c.args.cell.now c.seal_answer.new.cell c.in-Seal.x
    c.in-Seal.y
    c.in-Seal.is
    (g.V.Signal.signal.rails c.argument-in-Seal.result lane)
    (g.V.Signal.signal.rails c.argument-in-Seal-2.result lane)
    (agree c.in-Seal.x.0 c.argument-in-Seal.result c.argument-in-Seal.ensures)
    (agree c.in-Seal.y.0 c.argument-in-Seal-2.result c.argument-in-Seal-2.ensures) before
    (λ x y h. c.seal_answer.ensures.stands lane x y inside h)

pub returns-in-Seal-clause-answers : goal.returns-in-Seal-clause-answers
returns-in-Seal-clause-answers g c = λ lane w keys u inside shown of sent agree before.
    seal_pair g.V.Signal.signal g.V.Timed.stands_for lane w keys u
    c.args.moment.now.t c.args.gate.now c.args.cell.now c.seal_answer.new.cell c.in-Seal.x
    c.in-Seal.y
    c.in-Seal.is
    (g.V.Signal.signal.rails c.argument-in-Seal.result lane)
    (g.V.Signal.signal.rails c.argument-in-Seal-2.result lane)
    (agree c.in-Seal.x.0 c.argument-in-Seal.result c.argument-in-Seal.ensures)
    (agree c.in-Seal.y.0 c.argument-in-Seal-2.result c.argument-in-Seal-2.ensures) before
    c.recorded_ticks_suffice.ensures (g.V.Signal.signal.rails c.seal_answer.result lane)
    (λ x y h. c.seal_answer.ensures.sealed lane x y inside h)
