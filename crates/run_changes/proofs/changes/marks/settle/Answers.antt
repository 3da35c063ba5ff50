use Rattle.std.proofs.Common.{ap, length, ◌∙◌, arith, sym, subst}
use Rattle.run_changes.specs.changes.Marks.{IsMarked}
use Rattle.run_changes.proofs.changes_lemmas.MarkLaws.{room_on, settled}
use Rattle.std.proofs.Common.{refl}
use Rattle.run_changes.proofs.changes.marks.settle.Goals as goal

pub plan-requires-clause-wide : goal.plan-requires-clause-wide
plan-requires-clause-wide c =
    let wide = c.requires.wide in let same = c.unmark.ensures.count in omega (arith, wide, same)

pub plan-requires-clause-room : goal.plan-requires-clause-room
plan-requires-clause-room c =
    room_on c.args.marks.now _ c.unmark.ensures.count refl refl refl c.requires.room.reached
    c.requires.room

pub returns-clause-marks : goal.returns-clause-marks
returns-clause-marks c = λ dues marked.
    let more = c.plan.ensures.more in
    settled dues c.args.marks.now _ c.args.gate c.args.due
    (ap length more.words ∙ c.unmark.ensures.count) more.agenda_room more.ticks_room more.horizon
    more.next
    (λ i other m. subst (λ l. IsMarked i l) (sym more.words) (c.unmark.ensures.others i other m))
    more.agenda more.ticks c.plan.ensures.planned marked
