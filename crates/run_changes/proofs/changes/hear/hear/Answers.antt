use Rattle.std.proofs.Common.{◌≡◌, ℕ, length, refl, sym, ◌∙◌, subst, arith, ⊎_elim, inl, Some}
use Rattle.std.specs.Prelude.{slice_get}
use Rattle.std.proofs.lemmas.Bool.{cases_lt}
use Rattle.run_changes.specs.changes.Hears.{IsHeard}
use Rattle.run_changes.proofs.changes_lemmas.HearLaws.{hastened_on, hastened_none, heard_on}
use Rattle.run_changes.proofs.changes.hear.hear.Goals as goal

pub loop-channel-init : goal.loop-channel-init
loop-channel-init g c = record {
  dues = c.requires.dues;
  marks = c.requires.marks;
  next = c.requires.next;
  horizon = refl;
  hastened = hastened_none c.args.dues.now.items;
  heard = λ k d lt. absurd (omega arith);
}

pub loop-channel-preserved : goal.loop-channel-preserved
loop-channel-preserved g c =
    let i = c.loop-channel.channel in
    let old = c.loop-channel.dues.items in
    let new = c.hear_one.new.dues.items in
    let inv = c.loop-channel.invariant in
    let same : length old ≡ length new = sym c.hear_one.ensures.count in
    record {
      dues = c.hear_one.ensures.count ∙ inv.dues;
      marks = c.hear_one.ensures.marks;
      next = c.hear_one.ensures.next;
      horizon = c.hear_one.ensures.horizon ∙ inv.horizon;
      hastened = hastened_on c.args.dues.now.items old new same inv.hastened
          c.hear_one.ensures.hastened;
      heard = λ k d lt at.
          ⊎_elim
          (λ low. heard_on g.V.Signal.signal c.args.net.now
          c.args.column.now k d c.args.moment.now.sent.now c.args.moment.now.t old new same
          c.hear_one.ensures.hastened (inv.heard k d low at))
          (λ ge. let here : i ≡ k = omega arith in
          subst (λ (j : ℕ). IsHeard g.V.Signal.signal c.args.net.now
          c.args.column.now j d c.args.moment.now.sent.now c.args.moment.now.t new)
          here
          (c.hear_one.ensures.heard d
          (subst (λ (j : ℕ). slice_get c.args.moment.now.delays.now j ≡ Some d) (sym here) at)))
          (cases_lt k i);
    }

pub keys_stay-requires-clause-terminals : goal.keys_stay-requires-clause-terminals
keys_stay-requires-clause-terminals g c = c.requires.terminals ∙ sym c.requires.moment.sent.count

pub returns-then-keys_stay-clause-hastened : goal.returns-then-keys_stay-clause-hastened
returns-then-keys_stay-clause-hastened g c = hastened_none c.args.dues.now.items

pub returns-then-keys_stay-clause-heard : goal.returns-then-keys_stay-clause-heard
returns-then-keys_stay-clause-heard g c = λ n d low at. inl (λ s x sa xa.
    c.keys_stay.ensures c.if-keys_stay.true d.from s x sa xa)

pub hear_one-requires-clause-dues : goal.hear_one-requires-clause-dues
hear_one-requires-clause-dues g c = c.loop-channel.invariant.dues

pub hear_one-requires-clause-marks : goal.hear_one-requires-clause-marks
hear_one-requires-clause-marks g c = c.loop-channel.invariant.marks

pub hear_one-requires-clause-next : goal.hear_one-requires-clause-next
hear_one-requires-clause-next g c = c.loop-channel.invariant.next

pub returns-clause-heard : goal.returns-clause-heard
returns-clause-heard g c = λ n d low at.
    c.loop-channel.invariant.heard n d (omega (arith, low, c.loop-channel-test.false)) at

pub keys_stay-requires-clause-laws : goal.keys_stay-requires-clause-laws
keys_stay-requires-clause-laws g c = c.requires.laws

pub keys_stay-requires-clause-column : goal.keys_stay-requires-clause-column
keys_stay-requires-clause-column g c = c.requires.column

pub hear_one-requires-clause-laws : goal.hear_one-requires-clause-laws
hear_one-requires-clause-laws g c = c.requires.laws

pub hear_one-requires-clause-terminals : goal.hear_one-requires-clause-terminals
hear_one-requires-clause-terminals g c = c.requires.terminals

pub hear_one-requires-clause-column : goal.hear_one-requires-clause-column
hear_one-requires-clause-column g c = c.requires.column

pub hear_one-requires-clause-moment : goal.hear_one-requires-clause-moment
hear_one-requires-clause-moment g c = c.requires.moment

pub hear_one-requires-clause-soonest : goal.hear_one-requires-clause-soonest
hear_one-requires-clause-soonest g c = c.requires.soonest

pub hear_one-requires-clause-inside : goal.hear_one-requires-clause-inside
hear_one-requires-clause-inside g c = c.loop-channel-test.true

pub returns-then-keys_stay-clause-dues : goal.returns-then-keys_stay-clause-dues
returns-then-keys_stay-clause-dues g c = c.requires.dues

pub returns-then-keys_stay-clause-marks : goal.returns-then-keys_stay-clause-marks
returns-then-keys_stay-clause-marks g c = c.requires.marks

pub returns-then-keys_stay-clause-next : goal.returns-then-keys_stay-clause-next
returns-then-keys_stay-clause-next g c = c.requires.next

pub returns-then-keys_stay-clause-horizon : goal.returns-then-keys_stay-clause-horizon
returns-then-keys_stay-clause-horizon g c = refl

pub returns-clause-dues : goal.returns-clause-dues
returns-clause-dues g c = c.loop-channel.invariant.dues

pub returns-clause-marks : goal.returns-clause-marks
returns-clause-marks g c = c.loop-channel.invariant.marks

pub returns-clause-next : goal.returns-clause-next
returns-clause-next g c = c.loop-channel.invariant.next

pub returns-clause-horizon : goal.returns-clause-horizon
returns-clause-horizon g c = c.loop-channel.invariant.horizon

pub returns-clause-hastened : goal.returns-clause-hastened
returns-clause-hastened g c = c.loop-channel.invariant.hastened
