use Rattle.std.proofs.Common.{sym, subst}
use Rattle.model_history.specs.Recorded.{first_ticks}
use Rattle.run_step.specs.{CellStands.CellStands, Quiet.TimerKeeps}
use Rattle.run_step.specs.QuietLaws.{timer_fewer}
use Rattle.run_step.specs.TickLaws.{timer_keeps}
use Rattle.run_step.proofs.gate_answer.gate_stays.Goals as goal

pub returns-in-Timer-clause-keeps : goal.returns-in-Timer-clause-keeps
returns-in-Timer-clause-keeps g c = λ w u t agree stands lane inside.
    let a = c.in-Timer.x.0 in
    let p = c.in-Timer.field-1 in
    let d = c.in-Timer.field-2 in
    let x = g.V.Signal.signal.rails c.argument.result in
    let n = c.timer_stays.result in
    let all : TimerKeeps (w lane) (u lane) t n c.args.gate.now =
    subst (λ k. TimerKeeps (w lane) (u lane) t n k) (sym c.in-Timer.is)
    (timer_keeps c.elements_stay_in_a_stretch.ensures (u lane a) ((w lane).time p)
    ((w lane).time d) t n (x lane)
    (agree lane inside a c.argument.result c.argument.ensures)
    (λ j lt. c.timer_stays.ensures.steady (λ l. (w l).time p) (λ l. (w l).time d)
    (λ l. first_ticks (u l a) t)
    (λ l il. subst (λ k. CellStands g.V.Signal.signal g.V.Timed.stands_for l (w l)
    (u l) t k c.args.cell.now) c.in-Timer.is (stands l il))
    lane j inside lt)) in
    timer_fewer (w lane) (u lane) t c.lesser.result n c.args.gate.now c.lesser.ensures.second all
