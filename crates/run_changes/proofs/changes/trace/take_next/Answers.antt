use Rattle.std.proofs.Common.{◌≡◌, ℕ, ◌-◌, ◌*◌, ◌<◌, ◌≤◌, Some, length, refl, sym, subst, arith, inr, ⊎_elim}
use Rattle.std.proofs.lemmas.Bool.{cases_lt}
use Rattle.std.specs.Prelude.{slice_get}
use Rattle.run_changes.specs.changes.Marks.{IsMarked}
use Rattle.run_changes.proofs.changes_lemmas.TraceLaws.{fresh_next, lowered_lasts, traced_past}
use Rattle.run_changes.proofs.changes.trace.take_next.Goals as goal

pub next_marked-next-requires-clause-wide : goal.next_marked-next-requires-clause-wide
next_marked-next-requires-clause-wide g c =
    let wide = c.requires.gates.marks.wide in
    subst (λ l. c.len.result ≤ 64 * length l) (sym c.deref.ensures.value)
    (omega (arith, wide, c.requires.gates.dues, c.len.ensures.len))

pub returns-then-next-len-clause-gates : goal.returns-then-next-len-clause-gates
returns-then-next-len-clause-gates g c =
    let at = c.requires.gates in
    record {
      cells = at.cells;
      sinces = at.sinces;
      dues = at.dues;
      column = at.column;
      marks = at.marks;
      fresh = fresh_next c.args.moment.now.t c.args.i c.next_marked-next.result
          c.args.gates.now.dues.items c.next_marked-next.ensures.later at.fresh;
    }

pub returns-then-next-len-clause-others : goal.returns-then-next-len-clause-others
returns-then-next-len-clause-others g c = λ k due lt at. inr at

pub returns-then-next-len-clause-takes : goal.returns-then-next-len-clause-takes
returns-then-next-len-clause-takes g c = λ lane p inside given traced.
    let net = c.args.net.now in
    let at = c.requires.gates in
    let next = c.next_marked-next.result in
    let limit : next ≤ length net.gates =
    omega (arith, c.next_marked-next.ensures.limited, c.len.ensures.len) in
    (traced_past g.V.Signal.signal g.V.Timed.stands_for lane p c.args.moment.now.t
    net.gates c.elements_stay_in_a_stretch.ensures c.recorded_ticks_suffice.ensures c.args.i next
    c.args.gates.now c.requires.can.laws.gates at.cells.count at.sinces at.dues at.column at.marks
    at.fresh c.requires.next c.next_marked-next.ensures.later limit
    (λ k low lt m. c.next_marked-next.ensures.passed k low lt
    (subst (IsMarked k) (sym c.deref.ensures.value) m))
    given.told traced).0

pub returns-then-next-len-clause-lasts : goal.returns-then-next-len-clause-lasts
returns-then-next-len-clause-lasts g c = λ p ready lane k h d inside low lt ha dat.
    let net = c.args.net.now in
    let at = c.requires.gates in
    let next = c.next_marked-next.result in
    let limit : next ≤ length net.gates =
    omega (arith, c.next_marked-next.ensures.limited, c.len.ensures.len) in
    let q = ready lane inside in
    (traced_past g.V.Signal.signal g.V.Timed.stands_for lane (p lane)
    c.args.moment.now.t
    net.gates c.elements_stay_in_a_stretch.ensures c.recorded_ticks_suffice.ensures c.args.i next
    c.args.gates.now c.requires.can.laws.gates at.cells.count at.sinces at.dues at.column at.marks
    at.fresh c.requires.next c.next_marked-next.ensures.later limit
    (λ k low lt m. c.next_marked-next.ensures.passed k low lt
    (subst (IsMarked k) (sym c.deref.ensures.value) m))
    q.0.told q.1).1 k h d low lt ha dat

pub evaluate-requires-clause-gates : goal.evaluate-requires-clause-gates
evaluate-requires-clause-gates g c =
    let at = c.requires.gates in
    record {
      cells = at.cells;
      sinces = at.sinces;
      dues = at.dues;
      column = at.column;
      marks = at.marks;
      fresh = fresh_next c.args.moment.now.t c.args.i c.next_marked-next.result
          c.args.gates.now.dues.items c.next_marked-next.ensures.later at.fresh;
    }

pub returns-clause-others : goal.returns-clause-others
returns-clause-others g c = λ k due lt at.
    let from : c.args.i ≤ c.next_marked-next.result = c.next_marked-next.ensures.later in
    c.evaluate.ensures.others k due (omega (arith, lt, from)) at

pub returns-clause-takes : goal.returns-clause-takes
returns-clause-takes g c = λ lane p inside given traced.
    let net = c.args.net.now in
    let at = c.requires.gates in
    let next = c.next_marked-next.result in
    let limit : next ≤ length net.gates =
    omega (arith, c.next_marked-next.ensures.limited, c.len.ensures.len) in
    c.evaluate.ensures.takes lane p inside given
    (traced_past g.V.Signal.signal g.V.Timed.stands_for lane p c.args.moment.now.t
    net.gates c.elements_stay_in_a_stretch.ensures c.recorded_ticks_suffice.ensures c.args.i next
    c.args.gates.now c.requires.can.laws.gates at.cells.count at.sinces at.dues at.column at.marks
    at.fresh c.requires.next c.next_marked-next.ensures.later limit
    (λ k low lt m. c.next_marked-next.ensures.passed k low lt
    (subst (IsMarked k) (sym c.deref.ensures.value) m))
    given.told traced).0

pub returns-clause-lasts : goal.returns-clause-lasts
returns-clause-lasts g c = λ p ready lane k h d inside low lt ha dat.
    let t = c.args.moment.now.t in
    let net = c.args.net.now in
    let at = c.requires.gates in
    let next = c.next_marked-next.result in
    let limit : next ≤ length net.gates =
    omega (arith, c.next_marked-next.ensures.limited, c.len.ensures.len) in
    let past = λ (l : ℕ) (il : l < g.V.Signal.signal.lanes).
    let q = ready l il in
    traced_past g.V.Signal.signal g.V.Timed.stands_for l (p l) t
    net.gates c.elements_stay_in_a_stretch.ensures c.recorded_ticks_suffice.ensures c.args.i next
    c.args.gates.now c.requires.can.laws.gates at.cells.count at.sinces at.dues at.column at.marks
    at.fresh c.requires.next c.next_marked-next.ensures.later limit
    (λ k low lt m. c.next_marked-next.ensures.passed k low lt
    (subst (IsMarked k) (sym c.deref.ensures.value) m))
    q.0.told q.1 in
    ⊎_elim
    (λ lower. ⊎_elim
    (λ none. lowered_lasts (p lane) (t - 1) t d h none)
    (λ same. (past lane inside).1 k h d low lower ha same)
    (c.evaluate.ensures.others k d lower dat))
    (λ ge. let here : k ≡ next = omega (arith, lt, ge) in
    c.evaluate.ensures.lasts p (λ l il. ((ready l il).0, (past l il).0)) lane h d inside
    (subst (λ (j : ℕ). slice_get net.gates j ≡ Some h) here ha)
    (subst (λ (j : ℕ). slice_get c.evaluate.new.gates.dues.items j ≡ Some d) here dat))
    (cases_lt k next)

pub next_marked-next-requires-clause-few : goal.next_marked-next-requires-clause-few
next_marked-next-requires-clause-few g c =
    omega (arith, c.len.ensures.len, c.requires.can.laws.gates.few)

pub next_marked-next-requires-clause-inside : goal.next_marked-next-requires-clause-inside
next_marked-next-requires-clause-inside g c =
    omega (arith, c.requires.inside, c.len.ensures.len)

pub returns-then-next-len-clause-further : goal.returns-then-next-len-clause-further
returns-then-next-len-clause-further g c =
    omega (arith, c.requires.inside, c.if-next-len.true, c.len-2.ensures.len)

pub returns-then-next-len-clause-inside : goal.returns-then-next-len-clause-inside
returns-then-next-len-clause-inside g c =
    omega (arith, c.next_marked-next.ensures.limited, c.len.ensures.len)

pub returns-then-next-len-clause-next : goal.returns-then-next-len-clause-next
returns-then-next-len-clause-next g c = c.requires.next

pub returns-then-next-len-clause-horizon : goal.returns-then-next-len-clause-horizon
returns-then-next-len-clause-horizon g c = refl

pub evaluate-requires-clause-inside : goal.evaluate-requires-clause-inside
evaluate-requires-clause-inside g c =
    omega (arith, c.next_marked-next.ensures.limited, c.len.ensures.len, c.if-next-len.false, c.len-2.ensures.len)

pub evaluate-requires-clause-can : goal.evaluate-requires-clause-can
evaluate-requires-clause-can g c = c.requires.can

pub evaluate-requires-clause-next : goal.evaluate-requires-clause-next
evaluate-requires-clause-next g c = c.requires.next

pub overflow_add-result : goal.overflow_add-result
overflow_add-result g c =
    record {
      fits = omega (arith, c.next_marked-next.ensures.limited, c.len.ensures.len, c.requires.can.laws.gates.few);
    }

pub returns-clause-further : goal.returns-clause-further
returns-clause-further g c = omega (arith, c.next_marked-next.ensures.later)

pub returns-clause-inside : goal.returns-clause-inside
returns-clause-inside g c =
    omega (arith, c.next_marked-next.ensures.limited, c.len.ensures.len, c.if-next-len.false, c.len-2.ensures.len)

pub returns-clause-gates : goal.returns-clause-gates
returns-clause-gates g c = c.evaluate.ensures.gates

pub returns-clause-next : goal.returns-clause-next
returns-clause-next g c = c.evaluate.ensures.next

pub returns-clause-horizon : goal.returns-clause-horizon
returns-clause-horizon g c = c.evaluate.ensures.horizon
