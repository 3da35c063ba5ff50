use Rattle.std.proofs.Common.{◌≡◌, ℕ, Some, length, inr, refl, arith}
use Rattle.std.specs.Prelude.{slice_get}
use Rattle.run_step.specs.LoopLaws.{first_read, first_all}
use Rattle.run_changes.proofs.changes_lemmas.ReaderLaws.{below_read, count_one, lowered_one, zero_kept, zero_now}
use Rattle.run_changes.proofs.changes.readers.wake.Goals as goal
use Rattle.std.proofs.Common.{◌∙◌}

pub loop-gate-init : goal.loop-gate-init
loop-gate-init c = record {
  count = refl;
  lowered = λ i due at. inr at;
  awake = λ j y lt. absurd (omega arith);
  marks = c.requires.marks;
  next = refl;
  horizon = refl;
}

pub wake_one-requires-clause-inside : goal.wake_one-requires-clause-inside
wake_one-requires-clause-inside c =
    below_read (length c.args.dues.now.items) (length c.loop-gate.dues.items) c.args.gates.now
    c.loop-gate.gate-index _ c.loop-gate-test.true c.requires.inside c.loop-gate.invariant.count

pub loop-gate-preserved : goal.loop-gate-preserved
loop-gate-preserved c =
    let dues = c.loop-gate.dues.items in
    let new = c.wake_one.new.dues.items in
    let is = c.wake_one.ensures.due in
    record {
      count = count_one dues new _ is ∙ c.loop-gate.invariant.count;
      lowered = lowered_one c.args.dues.now.items dues new _ is c.loop-gate.invariant.lowered;
      awake = first_read (λ (i : ℕ). (due : ℕ) → slice_get new i ≡ Some due → due ≡ 0)
          c.args.gates.now c.loop-gate.gate-index _ c.loop-gate-test.true
          (λ j y lt at. zero_kept dues new _ y is (c.loop-gate.invariant.awake j y lt at))
          (zero_now dues new _ is);
      marks = c.wake_one.ensures.marks;
      next = c.wake_one.ensures.next ∙ c.loop-gate.invariant.next;
      horizon = c.wake_one.ensures.horizon ∙ c.loop-gate.invariant.horizon;
    }

pub returns-clause-awake : goal.returns-clause-awake
returns-clause-awake c = λ k i due at da.
    first_all (λ (j : ℕ). (d : ℕ) → slice_get c.loop-gate.dues.items j ≡ Some d → d ≡ 0)
    c.args.gates.now c.loop-gate.gate-index c.loop-gate-test.false c.loop-gate.invariant.awake k i
    at due da
