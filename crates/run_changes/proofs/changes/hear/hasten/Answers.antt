use Rattle.std.proofs.Common.{◌≡◌, ℕ, ◌≤◌, length, Some, refl, sym, arith, ◌∙◌}
use Rattle.std.specs.Prelude.{slice_get}
use Rattle.run_step.specs.LoopLaws.{first_read, first_all}
use Rattle.run_changes.proofs.changes_lemmas.HearLaws.{hastened_none, hastened_on, soon_kept}
use Rattle.run_changes.proofs.changes_lemmas.ReaderLaws.{below_read}
use Rattle.run_changes.proofs.changes.hear.hasten.Goals as goal

pub loop-gate-init : goal.loop-gate-init
loop-gate-init c = record {
  count = refl;
  hastened = hastened_none c.args.dues.now.items;
  soon = λ j y lt. absurd (omega arith);
  marks = c.requires.marks;
  next = c.requires.next;
  horizon = refl;
}

pub hasten_one-requires-clause-inside : goal.hasten_one-requires-clause-inside
hasten_one-requires-clause-inside c =
    below_read (length c.args.dues.now.items) (length c.loop-gate.dues.items) c.args.gates.now
    c.loop-gate.gate-index _ c.loop-gate-test.true c.requires.inside c.loop-gate.invariant.count

pub loop-gate-preserved : goal.loop-gate-preserved
loop-gate-preserved c =
    let old = c.loop-gate.dues.items in
    let new = c.hasten_one.new.dues.items in
    let first = c.args.first in
    record {
      count = c.hasten_one.ensures.count ∙ c.loop-gate.invariant.count;
      hastened = hastened_on c.args.dues.now.items old new (sym c.hasten_one.ensures.count)
          c.loop-gate.invariant.hastened c.hasten_one.ensures.hastened;
      soon = first_read (λ (i : ℕ). (due : ℕ) → slice_get new i ≡ Some due → due ≤ first)
          c.args.gates.now c.loop-gate.gate-index _ c.loop-gate-test.true
          (λ j y lt at. soon_kept first y old new (sym c.hasten_one.ensures.count)
          c.hasten_one.ensures.hastened (c.loop-gate.invariant.soon j y lt at))
          c.hasten_one.ensures.soon;
      marks = c.hasten_one.ensures.marks;
      next = c.hasten_one.ensures.next;
      horizon = c.hasten_one.ensures.horizon ∙ c.loop-gate.invariant.horizon;
    }

pub returns-clause-soon : goal.returns-clause-soon
returns-clause-soon c = λ k i due at da.
    first_all (λ (j : ℕ). (d : ℕ) → slice_get c.loop-gate.dues.items j ≡ Some d → d ≤ c.args.first)
    c.args.gates.now c.loop-gate.gate-index c.loop-gate-test.false c.loop-gate.invariant.soon k i
    at due da
