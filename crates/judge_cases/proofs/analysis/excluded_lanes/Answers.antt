use Rattle.std.proofs.Common.{◌≡◌, ◌≢◌, ◌<◌, ◌≤◌, ℕ, Bool, List, Some, length, refl, sym, ◌∙◌, ap}
use Rattle.std.proofs.Common.{arith, subst, ⊎_elim}
use Rattle.std.proofs.lemmas.Bool.{cases_lt}
use Rattle.std.proofs.lemmas.Option.{slice_get_read, slice_get_within}
use Rattle.std.specs.Prelude.{Decides, slice_get}
use Rattle.model_history.specs.Rails.{must_of}
use Rattle.model_settle.specs.Assumed.{Assumption}
use Rattle.run_signal.specs.Bits.{bit_on}
use Rattle.judge_cases.specs.declared.view.View.{View}
use Rattle.judge_cases.specs.Excluded.{OneIsExcluded, OneExcluded}
use Rattle.judge_cases.proofs.analysis.excluded_lanes.Goals as goal

one_view : (views : List View) (i : ℕ) (x y : View) → slice_get views i ≡ Some x
    → slice_get views i ≡ Some y → x ≡ y
one_view views i x y e f = cc

pub loop-lane-preserved : goal.loop-lane-preserved
loop-lane-preserved c = λ k view lt at.
    let line = c.args.compiled.now.line.now in
    let net = c.args.compiled.now.net.now in
    let views = c.args.views.now in
    let waves = c.args.waves.now in
    let n = c.loop-lane.lane in
    let inside : n < length views = c.loop-lane-test.true in
    let few : length views ≤ 64 = c.requires.few in
    let now : slice_get views n ≡ Some c.index-views-lane.result =
    slice_get_read views (length views) n c.index-views-lane.result refl inside
    c.index-views-lane.is in
    ⊎_elim
    (λ before.
    let low : k < 64 = omega arith in
    let ne : k ≢ n = λ e. omega arith in
    subst (λ (b : Bool). Decides b (OneIsExcluded line net view k waves))
    (sym (ap must_of (c.with_lane-lanes.ensures.others k low ne)))
    (c.loop-lane.invariant k view before at))
    (λ last.
    let same : n ≡ k = omega arith in
    let here : slice_get views n ≡ Some view = ap (slice_get views) same ∙ at in
    let one : c.index-views-lane.result ≡ view =
    one_view views n c.index-views-lane.result view now here in
    let told : Decides c.is_excluded-excluded.result (OneIsExcluded line net view n waves) =
    subst (λ (l : List Assumption). Decides c.is_excluded-excluded.result
    (OneExcluded line net l n waves))
    (c.deref.ensures.value
    ∙ ap (λ (v : View). v.assumed.items) (sym c.index-views-lane.is ∙ one))
    c.is_excluded-excluded.ensures in
    subst (λ (m : ℕ). Decides (bit_on c.with_lane-lanes.result m)
    (OneIsExcluded line net view m waves)) same
    (subst (λ (b : Bool). Decides b (OneIsExcluded line net view n waves))
    (sym (ap must_of c.with_lane-lanes.ensures.lane)) told))
    (cases_lt k n)

pub returns : goal.returns
returns c = λ lane view at.
    let within : lane < length c.args.views.now = slice_get_within c.args.views.now lane view at in
    let over : length c.args.views.now ≤ c.loop-lane.lane = c.loop-lane-test.false in
    c.loop-lane.invariant lane view (omega arith) at
