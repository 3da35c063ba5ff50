use Rattle.std.proofs.Common.{◌≡◌, ℕ, ◌<◌, ◌≤◌, ◌+◌, ◌-◌, ◌/◌, List, Some, refl, sym, ◌∙◌}
use Rattle.std.proofs.Common.{arith, length, get_or}
use Rattle.std.proofs.lemmas.Option.{slice_get_read}
use Rattle.std.specs.Prelude.{slice_get}
use Rattle.model_timing.specs.{declared.step.Step.Step}
use Rattle.run_step.proofs.SearchLaws.{all_ascend, halves_up, halves_down}
use Rattle.run_step.proofs.steps.passed_steps.Goals as goal

-- the step in the middle, and that it is one of the steps
module _ {S : Type 0} (xs : List (Step S)) (low high : ℕ) (s : Step S) (lt : low < high)
    (inside : high ≤ length xs) where
  abbrev middle : ℕ
  middle = low + (high - low) / 2

  middle_low : low ≤ middle
  middle_low = omega arith

  middle_high : middle < high
  middle_high = omega arith

  middle_at : s ≡ get_or xs middle s → slice_get xs middle ≡ Some s
  middle_at is =
      let below : middle < high = middle_high in
      slice_get_read xs (length xs) middle s refl (omega arith) is

pub loop-low-preserved-then-has_passed : goal.loop-low-preserved-then-has_passed
loop-low-preserved-then-has_passed g c =
    let xs = c.args.steps.now in
    let low = c.loop-low.low in
    let high = c.loop-low.high in
    let s = c.index-steps-middle.result in
    let h = c.loop-low.invariant in
    halves_up c.args.param c.args.t xs low high (low + (high - low) / 2) s
    (all_ascend xs c.requires) h (middle_high xs low high s c.loop-low-test.true h.inside)
    (middle_at xs low high s c.loop-low-test.true h.inside c.index-steps-middle.is)
    (sym c.has_passed.ensures ∙ c.if-has_passed.true)

pub loop-low-preserved : goal.loop-low-preserved
loop-low-preserved g c =
    let xs = c.args.steps.now in
    let low = c.loop-low.low in
    let high = c.loop-low.high in
    let s = c.index-steps-middle.result in
    let h = c.loop-low.invariant in
    halves_down c.args.param c.args.t xs low high (low + (high - low) / 2) s
    (all_ascend xs c.requires) h (middle_low xs low high s c.loop-low-test.true h.inside)
    (middle_high xs low high s c.loop-low-test.true h.inside)
    (middle_at xs low high s c.loop-low-test.true h.inside c.index-steps-middle.is)
    (sym c.has_passed.ensures ∙ c.if-has_passed.false)

pub returns : goal.returns
returns g c =
    let h = c.loop-low.invariant in
    let o : c.loop-low.low ≤ c.loop-low.high = h.ordered in
    let i : c.loop-low.high ≤ length c.args.steps.now = h.inside in
    record {
      inside = omega arith;
      below = h.below;
      above = λ i s le at. h.above i s (omega (arith, le, c.loop-low-test.false)) at;
    }
