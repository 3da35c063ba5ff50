use Rattle.std.proofs.Common.{◌≡◌, ℕ, ◌+◌, ◌-◌, ◌<◌, length, Some, refl, sym, ◌∙◌}
use Rattle.std.proofs.Common.{subst, ap, arith, inl, inr, ⊎_elim, length-set}
use Rattle.std.proofs.lemmas.List.{get_or-set_same, length-take-le}
use Rattle.std.proofs.lemmas.Option.{slice_get_read}
use Rattle.std.specs.Prelude.{slice_get, slice_set, take}
use Rattle.net_gates.specs.{declared.gate.Gate.Gate, Gates.HasArguments}
use Rattle.run_step.specs.Shown.{IsShown}
use Rattle.run_step.specs.{Lasts.Lasts, Ticks.ValuesAgree}
use Rattle.run_changes.specs.changes.Marks.{AreMarked}
use Rattle.run_step.specs.WalkLaws.{have_more}
use Rattle.model_history.specs.ListLaws.{one_value}
use Rattle.run_changes.proofs.changes_lemmas.TraceLaws.{set_here, set_other, fresh_more, fresh_lowered}
use Rattle.run_changes.proofs.changes_lemmas.TraceLaws.{lowered_lasts, traced_more, traced_agree}
use Rattle.run_changes.proofs.changes.trace.evaluate.Goals as goal

pub look-value-requires-clause-names : goal.look-value-requires-clause-names
look-value-requires-clause-names g c =
    c.requires.can.named.each c.args.i c.gate-gate.result.now (omega arith) c.gate-gate.ensures.is

pub spans_of-requires-clause-inside : goal.spans_of-requires-clause-inside
spans_of-requires-clause-inside g c =
    omega (arith, c.requires.inside, c.requires.can.shown_each.count)

pub spans_of-requires-clause-starts : goal.spans_of-requires-clause-starts
spans_of-requires-clause-starts g c = c.requires.can.shown_each.starts

pub settle-requires-clause-wide : goal.settle-requires-clause-wide
settle-requires-clause-wide g c =
    let wide = c.requires.gates.marks.wide in
    omega (arith, wide, c.requires.inside, c.requires.gates.dues)

pub tell-requires-clause-marks : goal.tell-requires-clause-marks
tell-requires-clause-marks g c =
    let i = c.args.i in
    let dues = c.args.gates.now.dues.items in
    let new = c.look-value.new.due in
    let due = c.index-due.result.now in
    let inside : i < length dues = omega (arith, c.requires.inside, c.requires.gates.dues) in
    subst (λ (x : ℕ). AreMarked (slice_set dues i x) c.settle.new.marks)
    (c.index-due.ensures ∙ get_or-set_same dues i new due inside)
    (c.settle.ensures.marks dues c.requires.gates.marks)

pub settle-requires-clause-later : goal.settle-requires-clause-later
settle-requires-clause-later g c =
    let i = c.args.i in
    let dues = c.args.gates.now.dues.items in
    let new = c.look-value.new.due in
    let due = c.index-due.result.now in
    let inside : i < length dues = omega (arith, c.requires.inside, c.requires.gates.dues) in
    let is : due ≡ new = c.index-due.ensures ∙ get_or-set_same dues i new due inside in
    omega (arith, c.requires.next, c.look-value.ensures.later, is)

pub returns-clause-next : goal.returns-clause-next
returns-clause-next g c = c.tell.ensures.next ∙ c.settle.ensures.next ∙ c.requires.next

pub returns-clause-gates : goal.returns-clause-gates
returns-clause-gates g c =
    let t = c.args.moment.now.t in
    let i = c.args.i in
    let gates = c.args.gates.now in
    let dues = gates.dues.items in
    let due = c.look-value.new.due in
    record {
      cells = have_more c.args.net.now.gates gates.cells.items i c.gate-gate.result.now
          c.look-value.new.cell c.gate-gate.ensures.is c.requires.gates.cells c.look-value.ensures.shape;
      sinces = length-set gates.sinces.items i c.look-value.new.since ∙ c.requires.gates.sinces;
      dues = c.tell.ensures.count ∙ length-set dues i due ∙ c.requires.gates.dues;
      column = length-set gates.column.items i c.look-value.result ∙ c.requires.gates.column;
      marks = c.tell.ensures.marks;
      fresh = fresh_lowered t (i + 1) (slice_set dues i due) c.tell.new.dues.items
          c.tell.ensures.lowered (fresh_more t i (i + 1) dues due refl c.requires.gates.fresh);
    }

pub returns-clause-others : goal.returns-clause-others
returns-clause-others g c = λ k due lt at.
    let i = c.args.i in
    let dues = c.args.gates.now.dues.items in
    ⊎_elim inl
    (λ same. inr (set_other dues i c.look-value.new.due k due (λ e. omega (arith, e, lt)) same))
    (c.tell.ensures.lowered k due at)

pub returns-clause-takes : goal.returns-clause-takes
returns-clause-takes g c = λ lane p inside given traced.
    let t = c.args.moment.now.t in
    let i = c.args.i in
    let rails = g.V.Signal.signal.rails in
    let gates = c.args.net.now.gates in
    let kept = c.args.gates.now in
    let cells = kept.cells.items in
    let sinces = kept.sinces.items in
    let dues = kept.dues.items in
    let column = kept.column.items in
    let gate = c.gate-gate.result.now in
    let cell = c.index_mut.result.now in
    let since = c.index_mut-2.result.now in
    let due = c.index_mut-3.result.now in
    let last = c.index-last.result.now in
    let value = c.look-value.result in
    let new = c.look-value.new.due in
    let ga : slice_get gates i ≡ Some gate = c.gate-gate.ensures.is in
    let ca : slice_get cells i ≡ Some cell =
    slice_get_read cells (length gates) i cell (sym c.requires.gates.cells.count) c.requires.inside
    c.index_mut.ensures.value in
    let sa : slice_get sinces i ≡ Some since =
    slice_get_read sinces (length gates) i since (sym c.requires.gates.sinces) c.requires.inside
    c.index_mut-2.ensures.value in
    let da : slice_get dues i ≡ Some due =
    slice_get_read dues (length gates) i due (sym c.requires.gates.dues) c.requires.inside
    c.index_mut-3.ensures.value in
    let va : slice_get column i ≡ Some last =
    slice_get_read column (length gates) i last (sym c.requires.gates.column) c.requires.inside
    c.index-last.ensures in
    let shows : IsShown c.spans_of.result.now p.world gate =
    c.spans_of.ensures p.world (given.shows i gate ga) in
    let agree : ValuesAgree rails lane p.pairs t (take i c.deref.result.now) =
    subst (λ l. ValuesAgree rails lane p.pairs t (take i l)) (sym c.deref.ensures.value)
    (traced_agree g.V.Signal.signal g.V.Timed.stands_for lane p t gates i kept traced) in
    let waits = traced.wait i gate cell since due last (omega arith) ga ca sa da va in
    let now : rails value lane ≡ p.pairs i t =
    c.look-value.ensures.answers lane p inside shows given.delays given.sent agree waits.lags
    ∙ sym (given.told t i gate ga) in
    traced_more g.V.Signal.signal g.V.Timed.stands_for lane p t gates i kept _ gate c.look-value.new.cell
    c.look-value.new.since new last value inside
    (length-set dues i new ∙ c.requires.gates.dues) refl refl refl c.tell.ensures.lowered
    c.tell.ensures.told ga waits.last now
    (c.look-value.ensures.stands lane p inside agree waits.lags) traced

pub returns-clause-lasts : goal.returns-clause-lasts
returns-clause-lasts g c = λ p all lane h d inside ha dat.
    let t = c.args.moment.now.t in
    let i = c.args.i in
    let rails = g.V.Signal.signal.rails in
    let gates = c.args.net.now.gates in
    let kept = c.args.gates.now in
    let cells = kept.cells.items in
    let sinces = kept.sinces.items in
    let dues = kept.dues.items in
    let column = kept.column.items in
    let gate = c.gate-gate.result.now in
    let cell = c.index_mut.result.now in
    let since = c.index_mut-2.result.now in
    let due = c.index_mut-3.result.now in
    let last = c.index-last.result.now in
    let new = c.look-value.new.due in
    let ga : slice_get gates i ≡ Some gate = c.gate-gate.ensures.is in
    let ca : slice_get cells i ≡ Some cell =
    slice_get_read cells (length gates) i cell (sym c.requires.gates.cells.count) c.requires.inside
    c.index_mut.ensures.value in
    let sa : slice_get sinces i ≡ Some since =
    slice_get_read sinces (length gates) i since (sym c.requires.gates.sinces) c.requires.inside
    c.index_mut-2.ensures.value in
    let da : slice_get dues i ≡ Some due =
    slice_get_read dues (length gates) i due (sym c.requires.gates.dues) c.requires.inside
    c.index_mut-3.ensures.value in
    let va : slice_get column i ≡ Some last =
    slice_get_read column (length gates) i last (sym c.requires.gates.column) c.requires.inside
    c.index-last.ensures in
    ⊎_elim
    (λ none. lowered_lasts (p lane) (t - 1) t d h none)
    (λ same.
    subst (λ (x : ℕ). Lasts (p lane) (t - 1) t (x - t) h) (set_here dues i new i d refl same)
    (subst (λ (x : Gate). Lasts (p lane) (t - 1) t (new - t) x) (one_value gates i i gate h refl ga ha)
    (c.look-value.ensures.lasts p
    (λ l il. let q = all l il in (
      c.spans_of.ensures (p l).world (q.0.shows i gate ga),
      q.0.delays,
      q.0.sent,
      subst (λ x. ValuesAgree rails l (p l).pairs t (take i x)) (sym c.deref.ensures.value)
          (traced_agree g.V.Signal.signal g.V.Timed.stands_for l (p l) t gates i kept q.1),
      (q.1.wait i gate cell since due last (omega arith) ga ca sa da va).lags,
    ))
    lane inside)))
    (c.tell.ensures.lowered i d dat)

pub look-value-requires-clause-cell : goal.look-value-requires-clause-cell
look-value-requires-clause-cell g c =
    let i = c.args.i in
    let gates = c.args.net.now.gates in
    let cell = c.index_mut.result.now in
    c.requires.gates.cells.each i c.gate-gate.result.now cell c.gate-gate.ensures.is
    (slice_get_read c.args.gates.now.cells.items (length gates) i cell
    (sym c.requires.gates.cells.count) c.requires.inside c.index_mut.ensures.value)

pub look-value-requires-clause-arguments : goal.look-value-requires-clause-arguments
look-value-requires-clause-arguments g c =
    let i = c.args.i in
    let column = c.deref.result.now in
    let long : length column ≡ length c.args.net.now.gates =
    ap length c.deref.ensures.value ∙ c.requires.gates.column in
    subst (λ (n : ℕ). HasArguments n c.gate-gate.result.now)
    (sym (length-take-le i column (omega (arith, long, c.requires.inside))))
    (c.requires.can.laws.gates.earlier i c.gate-gate.result.now c.gate-gate.ensures.is)

pub settle-requires-clause-room : goal.settle-requires-clause-room
settle-requires-clause-room g c = c.requires.gates.marks.room

pub look-value-requires-clause-moment : goal.look-value-requires-clause-moment
look-value-requires-clause-moment g c = c.requires.can.hear

pub look-value-requires-clause-set : goal.look-value-requires-clause-set
look-value-requires-clause-set g c = c.requires.can.set
