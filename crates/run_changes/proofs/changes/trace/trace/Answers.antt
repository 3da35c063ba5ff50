use Rattle.std.proofs.Common.{◌<◌, length, refl, arith}
use Rattle.std.proofs.lemmas.Option.{slice_get_within}
use Rattle.run_changes.proofs.changes_lemmas.TraceLaws.{traced_none}
use Rattle.run_changes.proofs.changes.trace.trace.Goals as goal

pub trace_all-requires-clause-gates : goal.trace_all-requires-clause-gates
trace_all-requires-clause-gates g c =
    let at = c.requires.gates in
    record {
      cells = at.cells;
      sinces = at.sinces;
      dues = at.dues;
      column = at.column;
      marks = c.wake_due.ensures.marks c.args.gates.now.dues.items at.marks;
      fresh = at.fresh;
    }

pub wake_due-requires-clause-tick : goal.wake_due-requires-clause-tick
wake_due-requires-clause-tick g c =
    let tick = c.requires.can.hear.tick in omega (arith, c.requires.horizon, tick)

pub wake_due-requires-clause-room : goal.wake_due-requires-clause-room
wake_due-requires-clause-room g c = c.requires.gates.marks.room

pub returns-clause-answers : goal.returns-clause-answers
returns-clause-answers g c = λ lane p inside given wait k x at.
    let within : k < length c.trace_all.new.gates.column.items =
    slice_get_within c.trace_all.new.gates.column.items k x at in
    (c.trace_all.ensures.takes lane p inside given
    (traced_none g.V.Signal.signal g.V.Timed.stands_for lane p c.args.moment.now.t
    c.args.net.now.gates c.args.gates.now _ refl refl refl refl wait)).values k x
    (omega (arith, within, c.trace_all.ensures.gates.column)) at

pub returns-clause-lags : goal.returns-clause-lags
returns-clause-lags g c = λ lane p inside given wait k h cell since ha ca sa.
    let within : k < length c.args.net.now.gates =
    slice_get_within c.args.net.now.gates k h ha in
    (c.trace_all.ensures.takes lane p inside given
    (traced_none g.V.Signal.signal g.V.Timed.stands_for lane p c.args.moment.now.t
    c.args.net.now.gates c.args.gates.now _ refl refl refl refl wait)).lags k h cell since within
    ha ca sa

pub returns-clause-lasts : goal.returns-clause-lasts
returns-clause-lasts g c = λ p all.
    c.trace_all.ensures.lasts p
    (λ lane inside. let q = all lane inside in (
      q.0,
      traced_none g.V.Signal.signal g.V.Timed.stands_for lane (p lane)
          c.args.moment.now.t c.args.net.now.gates c.args.gates.now _ refl refl refl refl q.1,
    ))
