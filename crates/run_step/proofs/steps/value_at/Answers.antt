use Rattle.std.proofs.Common.{◌≡◌, ◌≢◌, ℕ, ◌≤◌, ◌-◌, List, Some, refl}
use Rattle.std.proofs.Common.{arith, length, get_or}
use Rattle.std.proofs.lemmas.Option.{slice_get_read}
use Rattle.std.specs.Prelude.{slice_get}
use Rattle.model_timing.specs.{declared.step.Step.Step, Timing.number_at}
use Rattle.run_step.specs.Steps.{IsParted}
use Rattle.run_step.proofs.SearchLaws.{AreAscending, all_ascend}
use Rattle.run_step.proofs.SearchLaws.{value_none, value_last, value_other}
use Rattle.run_step.proofs.steps.value_at.Goals as goal

-- what the last step that is passed gives
module _ {S : Type 0} (param t : ℕ) (own : S) (xs : List (Step S)) (low : ℕ)
    (h : IsParted param t xs low) where
  found_none : low ≡ 0 → own ≡ number_at xs param t own
  found_none e = value_none param t own xs (λ i s le at. h.above i s (omega arith) at)

  module _ (last : Step S) (some : low ≢ 0) (is : last ≡ get_or xs (low - 1) last) where
    last_at : slice_get xs (low - 1) ≡ Some last
    last_at =
        let i : low ≤ length xs = h.inside in
        slice_get_read xs (length xs) (low - 1) last refl (omega arith) is

    found_last : last.param ≡ param → last.value ≡ number_at xs param t own
    found_last e =
        value_last param t own xs (low - 1) last last_at
        (h.below (low - 1) last (omega arith) last_at) e
        (λ i s le at. h.above i s (omega arith) at)

    found_other : AreAscending xs → last.param ≢ param → own ≡ number_at xs param t own
    found_other up ne =
        value_other param t own xs (low - 1) last up last_at
        (h.below (low - 1) last (omega arith) last_at) ne
        (λ i s le at. h.above i s (omega arith) at)

pub returns-then-passed-eq0 : goal.returns-then-passed-eq0
returns-then-passed-eq0 g c =
    found_none c.args.param c.args.t c.args.own c.args.steps.now c.args.passed
    c.requires.parted c.if-passed-eq0.true

pub returns-then-last-param : goal.returns-then-last-param
returns-then-last-param g c =
    found_last c.args.param c.args.t c.args.own c.args.steps.now c.args.passed
    c.requires.parted c.index-steps-passed.result c.if-passed-eq0.false
    c.index-steps-passed.is c.if-last-param.true

pub returns-else-last-param : goal.returns-else-last-param
returns-else-last-param g c =
    found_other c.args.param c.args.t c.args.own c.args.steps.now c.args.passed
    c.requires.parted c.index-steps-passed.result c.if-passed-eq0.false
    c.index-steps-passed.is (all_ascend c.args.steps.now c.requires.ascending) c.if-last-param.false
