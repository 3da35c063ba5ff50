use Rattle.std.proofs.Common.{◌≤◌, arith, refl, sym, subst}
use Rattle.run_changes.specs.changes.Marks.{IsMarked}
use Rattle.run_changes.proofs.changes_lemmas.MarkLaws.{next_later, next_raised}
use Rattle.run_changes.proofs.changes.marks.quiet_ticks.Goals as goal

pub returns-then-have_none-clause-marks : goal.returns-then-have_none-clause-marks
returns-then-have_none-clause-marks c = λ dues marked.
    next_raised dues c.args.marks.now _ refl refl refl refl
    (omega (arith, c.next_marked-next.ensures.later, c.requires.next))
    c.next_marked-next.ensures.limited
    (λ k low lt m. c.next_marked-next.ensures.passed k (omega (arith, low, c.requires.next)) lt
    (subst (IsMarked k) (sym c.deref.ensures.value) m))
    marked

pub returns-then-have_none-clause-later : goal.returns-then-have_none-clause-later
returns-then-have_none-clause-later c = λ more dues marked i due at.
    let late : c.next_marked-next.result ≤ due =
    next_later dues c.args.marks.now c.next_marked-next.result i due
    c.next_marked-next.ensures.limited
    (λ k m. c.if-have_none.ensures refl k (subst (IsMarked k) (sym c.deref-2.ensures.value) m))
    (λ k low lt m. c.next_marked-next.ensures.passed k (omega (arith, low, c.requires.next)) lt
    (subst (IsMarked k) (sym c.deref.ensures.value) m))
    marked at in
    omega (arith, late)
