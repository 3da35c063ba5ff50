use Rattle.std.proofs.Common.{◌≡◌, ◌∙◌, ap, arith, length, length-set, refl, subst, sym}
use Rattle.std.proofs.lemmas.Option.{slice_get_read}
use Rattle.model_history.specs.ListLaws.{one_value}
use Rattle.run_changes.specs.changes.Marks.{IsMarked}
use Rattle.run_changes.proofs.changes_lemmas.HearLaws.{hastened_none, hastened_one}
use Rattle.run_changes.proofs.changes_lemmas.MarkLaws.{settled}
use Rattle.run_changes.proofs.changes_lemmas.TraceLaws.{set_here}
use Rattle.run_changes.proofs.changes.hear.hasten_one.Goals as goal

pub returns-then-index-first-clause-hastened : goal.returns-then-index-first-clause-hastened
returns-then-index-first-clause-hastened c = hastened_none c.args.dues.now.items

pub returns-then-index-first-clause-soon : goal.returns-then-index-first-clause-soon
returns-then-index-first-clause-soon c = λ due at.
    let dues = c.args.dues.now.items in
    let is : c.index.result.now ≡ due =
    one_value dues c.args.gate c.args.gate _ due refl
    (slice_get_read dues (length dues) c.args.gate _ refl c.requires.inside c.index.ensures) at in
    omega (arith, is, c.if-index-first.true)

pub plan-requires-clause-wide : goal.plan-requires-clause-wide
plan-requires-clause-wide c = omega (arith, c.requires.inside, c.requires.marks.wide)

pub plan-requires-clause-room : goal.plan-requires-clause-room
plan-requires-clause-room c = c.requires.marks.room

pub plan-requires-clause-later : goal.plan-requires-clause-later
plan-requires-clause-later c = omega (arith, c.requires.next, c.requires.later)

pub returns-clause-count : goal.returns-clause-count
returns-clause-count c = length-set c.args.dues.now.items c.args.gate c.args.first

pub returns-clause-hastened : goal.returns-clause-hastened
returns-clause-hastened c =
    let dues = c.args.dues.now.items in
    hastened_one dues c.args.gate c.args.first
    (λ due at.
    let is : c.index.result.now ≡ due =
    one_value dues c.args.gate c.args.gate _ due refl
    (slice_get_read dues (length dues) c.args.gate _ refl c.requires.inside c.index.ensures) at in
    omega (arith, is, c.if-index-first.false))

pub returns-clause-soon : goal.returns-clause-soon
returns-clause-soon c = λ due at.
    let is : c.args.first ≡ due =
    set_here c.args.dues.now.items c.args.gate c.args.first c.args.gate due refl at in
    omega (arith, is)

pub returns-clause-marks : goal.returns-clause-marks
returns-clause-marks c =
    let more = c.plan.ensures.more in
    settled c.args.dues.now.items c.args.marks.now _ c.args.gate c.args.first (ap length more.words)
    more.agenda_room more.ticks_room more.horizon more.next
    (λ i other m. subst (λ l. IsMarked i l) (sym more.words) m)
    more.agenda more.ticks c.plan.ensures.planned c.requires.marks

pub returns-clause-next : goal.returns-clause-next
returns-clause-next c = c.plan.ensures.more.next ∙ c.requires.next

pub returns-clause-horizon : goal.returns-clause-horizon
returns-clause-horizon c = c.plan.ensures.more.horizon
