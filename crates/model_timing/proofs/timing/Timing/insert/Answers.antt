use Rattle.std.proofs.Common.{◌≡◌, ◌∙◌, List, ℕ, false, IsTrue, sym, ap, subst}
use Rattle.std.specs.List.{list_any, position_or_len, insert}
use Rattle.model_timing.specs.declared.step.Step.{Step}
use Rattle.model_timing.specs.Timing.{TimingValues, comes_before, ascend, with_step}
use Rattle.model_timing.proofs.StepParts.{place_is}
use Rattle.model_timing.specs.StepOrderLaws.{same_place, insert-with_step, ascend-with_step}
use Rattle.model_timing.proofs.timing.Timing.insert.Goals as goal

pub invariant_of-self-2 : goal.invariant_of-self-2
invariant_of-self-2 c =
    let xs : List (Step ℕ) = c.self.inside.steps.items in
    let step : Step ℕ = c.args.step in
    let at : c.place_after-at.result ≡ position_or_len (comes_before step) xs =
    sym (place_is c.as_slice.result.now step c.place_after-at.result
    c.place_after-at.ensures.within c.place_after-at.ensures.parted)
    ∙ ap (λ (ys : List (Step ℕ)). position_or_len (comes_before step) ys)
    c.as_slice.ensures.value in
    let items : c.insert.new.self.items ≡ insert xs c.place_after-at.result step =
    c.in_ok-insert.ensures.items in
    let all : c.insert.new.self.items ≡ with_step step xs =
    items ∙ ap (λ n. insert xs n step) at ∙ insert-with_step step xs in
    let once : list_any (same_place step) xs ≡ false =
    ap (λ (t : TimingValues). list_any (same_place step) t.steps) c.self.view_is ∙ c.requires in
    let up = ascend-with_step step xs c.self.invariant once in
    subst (λ (ys : List (Step ℕ)). IsTrue (ascend ys)) (sym all) up

pub returns : goal.returns
returns c =
    let xs : List (Step ℕ) = c.self.inside.steps.items in
    let step : Step ℕ = c.args.step in
    let at : c.place_after-at.result ≡ position_or_len (comes_before step) xs =
    sym (place_is c.as_slice.result.now step c.place_after-at.result
    c.place_after-at.ensures.within c.place_after-at.ensures.parted)
    ∙ ap (λ (ys : List (Step ℕ)). position_or_len (comes_before step) ys)
    c.as_slice.ensures.value in
    let items : c.insert.new.self.items ≡ insert xs c.place_after-at.result step =
    c.in_ok-insert.ensures.items in
    let all : c.insert.new.self.items ≡ with_step step xs =
    items ∙ ap (λ n. insert xs n step) at ∙ insert-with_step step xs in
    let timing : List (Step ℕ) → TimingValues =
    λ ys. record { values = c.self.inside.values.items; steps = ys } in
    ap timing all
    ∙ ap (λ (t : TimingValues). record { values = t.values; steps = with_step step t.steps })
    c.self.view_is
