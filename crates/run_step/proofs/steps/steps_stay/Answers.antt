use Rattle.std.proofs.Common.{◌≡◌, ◌≢◌, ℕ, ◌+◌, ◌-◌, ◌<◌, ◌≤◌, List, Some, true, false, length, get_or}
use Rattle.std.proofs.Common.{refl, inr, ⊎_elim, arith}
use Rattle.std.proofs.Math.Arith.{lt_of_le-ne}
use Rattle.std.proofs.Math.Nat.{le_of_lt}
use Rattle.std.proofs.lemmas.Bool.{cases_lt}
use Rattle.std.proofs.lemmas.Option.{slice_get_read, slice_get_within}
use Rattle.std.specs.Prelude.{slice_get}
use Rattle.model_timing.specs.{declared.step.Step.Step, Timing.is_passed}
use Rattle.run_step.specs.Steps.{IsParted}
use Rattle.run_step.proofs.SearchLaws.{read_comes, passed_is}
use Rattle.run_step.proofs.steps.steps_stay.Goals as goal

-- ticks up to one that is to come
some_ticks : (t f : ℕ) → t < f → 1 ≤ f - t
some_ticks t f lt = omega (arith, lt)

no_later : (t f n : ℕ) → t < f → f ≤ n → t + (f - t) ≤ n
no_later t f n lt le = omega (arith, lt, le)

module _ {S : Type 0} (param t : ℕ) (xs : List (Step S)) (count : ℕ)
    (parted : IsParted param t xs count) where
  -- a step of the parameter that is not passed is to come
  not_come : (s : Step S) → is_passed param t s ≡ false → s.param ≡ param → t < s.from
  not_come s off same =
      ⊎_elim (λ lt. lt)
      (λ le. let on : is_passed param t s ≡ true = (passed_is param t s).1 (inr (same, le)) in
      absurd (cc))
      (cases_lt t s.from)

  -- where all are passed, none is
  all_passed : count ≡ length xs → (i : ℕ) (s : Step S) → slice_get xs i ≡ Some s
      → s.param ≡ param → t < s.from → ⊥
  all_passed all i s at same to_come =
      let lt : i < length xs = slice_get_within xs i s at in
      ⊎_elim
      (λ p. let q : s.param < param = p in omega (arith, q, same))
      (λ p. let q : s.from ≤ t = p.1 in omega (arith, q, to_come))
      ((passed_is param t s).0 (parted.below i s (omega (arith, lt, all)) at))

  next_there : count ≢ length xs → count < length xs
  next_there more = lt_of_le-ne parted.inside more

  -- the one after those that are passed
  next_to_come : (next : Step S) → count ≢ length xs → next ≡ get_or xs count next
      → next.param ≡ param → t < next.from
  next_to_come next more is same =
      let at : slice_get xs count ≡ Some next =
      slice_get_read xs (length xs) count next refl (next_there more) is in
      not_come next (parted.above count next (omega arith) at) same

pub returns-then-passed-steps-clause-keeps : goal.returns-then-passed-steps-clause-keeps
returns-then-passed-steps-clause-keeps g c = λ i step at of to_come.
    absurd (all_passed c.args.param c.args.t c.args.steps.now c.args.passed c.requires.parted
    c.if-passed-steps.true i step at of to_come)

pub offset_bounds-steps-passed : goal.offset_bounds-steps-passed
offset_bounds-steps-passed g c = c.requires.parted.inside

pub overflow_sub-result : goal.overflow_sub-result
overflow_sub-result g c =
    le_of_lt (next_to_come c.args.param c.args.t c.args.steps.now c.args.passed c.requires.parted
    c.index-steps-passed.result c.if-passed-steps.false c.index-steps-passed.is
    c.if-next-param.true)

pub returns-then-next-param-clause-some : goal.returns-then-next-param-clause-some
returns-then-next-param-clause-some g c =
    some_ticks c.args.t c.index-steps-passed.result.from
    (next_to_come c.args.param c.args.t c.args.steps.now c.args.passed c.requires.parted
    c.index-steps-passed.result c.if-passed-steps.false c.index-steps-passed.is
    c.if-next-param.true)

pub returns-then-next-param-clause-keeps : goal.returns-then-next-param-clause-keeps
returns-then-next-param-clause-keeps g c = λ i step at of to_come.
    let param = c.args.param in
    let t = c.args.t in
    let steps = c.args.steps.now in
    let passed = c.args.passed in
    let next = c.index-steps-passed.result in
    let parted = c.requires.parted in
    no_later t next.from step.from
    (next_to_come param t steps passed parted next c.if-passed-steps.false c.index-steps-passed.is
    c.if-next-param.true)
    (read_comes param t steps passed i next step c.requires.ascending parted
    (next_there param t steps passed parted c.if-passed-steps.false) c.index-steps-passed.is at of
    to_come).1

pub returns-else-next-param-clause-keeps : goal.returns-else-next-param-clause-keeps
returns-else-next-param-clause-keeps g c = λ i step at of to_come.
    let param = c.args.param in
    let t = c.args.t in
    let steps = c.args.steps.now in
    let passed = c.args.passed in
    let parted = c.requires.parted in
    absurd (c.if-next-param.false (read_comes param t steps passed i c.index-steps-passed.result step
    c.requires.ascending parted (next_there param t steps passed parted c.if-passed-steps.false)
    c.index-steps-passed.is at of to_come).0)
